-- A walk keeps no more ranges than the number of the cuts of a tree, those counted once that an empty node between two cycles has twice.
use Rattle.std.proofs.Common.{◌≡◌, ℕ, zero, suc, ◌+◌, ◌-◌, ◌≤◌, inl, inr, Bool, true, false, ◌&&◌, ◌==◌, List, [], ◌∷◌, ◌++◌, length, map, drop, ap, ◌∙◌, sym, refl, subst, arith, append-nil}
use Rattle.std.specs.Prelude.{nat_le, slice_index, ⊤, if◌then◌else◌}
use Rattle.std.specs.List.{All, AllByRecursion, flat_map, list_all}
use Rattle.std.specs.declared.boxed.Box.{Box}
use Rattle.std.specs.declared.alloc.Global.{Global}
use Rattle.std.proofs.lemmas.Bool.{and_parts, cases_Bool, eqb-true, false≢true}
use Rattle.std.proofs.lemmas.List.{append_assoc, length-append, length-map, nil_from_length}
use Rattle.std.proofs.lemmas.List.Elements.{All-cons, All-head, All-nil, All-tail}
use Rattle.rooted_cactus.specs.Entered.{entered, entered_block}
use Rattle.rooted_cactus.specs.Outlines.{Outline, all_outlines, block_entries, block_outline, block_sizes, entries_with, outline, outlined, sizes}
use Rattle.rooted_cactus.specs.Places.{places_from}
use Rattle.cactus_walk.specs.Repeats.{entry_at, is_between, passed_over}
use Rattle.rooted_cactus.specs.Trees.{blocks, nodes_in, vertices}
use Rattle.rooted_cactus.specs.Widths.{block_widths, joined, widths}
use Rattle.rooted_cactus.specs.Numbers.{Tally, all_own, all_under, between, number, tally, triangle}
use Rattle.rooted_cactus.specs.declared.tree.Node.{Node}
use Rattle.rooted_cactus.specs.declared.tree.Block.{Block}
use Rattle.rooted_cactus.specs.declared.tree.Children.{Children}
use Rattle.rooted_cactus.specs.declared.tree.Block.TheVariants.{Bridge, Cycle}
use Rattle.rooted_cactus.specs.declared.tree.outline.NodeOutline.{NodeOutline}
use Rattle.rooted_cactus.proofs.Hops.{among, head_among, tail_among}
use Rattle.cactus_walk.proofs.Kept.{all_to, along, ends, of_nodes, range}
use Rattle.rooted_cactus.proofs.Orders.{entered_bridge, entered_cycle, entered_out}
use Rattle.rooted_cactus.proofs.Outlined.{outline_bridge, outline_cycle, outline_fits, outline_out}
use Rattle.cactus_walk.proofs.PlaceLaws.{sizes_entered}
use Rattle.rooted_cactus.proofs.Tallies.{all_numbers, number_out, tally_bridge, tally_cycle}
use Rattle.rooted_cactus.proofs.SizesOut.{sizes_bridge, sizes_cycle, sizes_out}
use Rattle.rooted_cactus.proofs.Views.{block_induction, each, view}
use Rattle.rooted_cactus.proofs.Widths.{widths_bridge, widths_out}
use Rattle.rooted_cactus.proofs.Built.{ring_widths}

abbrev Numbers : Type 0
Numbers = List ℕ

abbrev Lists : Type 0
Lists = List (List ℕ)

-- ---- a test that is true of each node without a vertex above one block of two or more nodes, as entries and lists show it
abbrev pub Finds : (ℕ → Bool) → ℕ → List NodeOutline → Lists → Type 0
Finds f k [] ls = ⊤
Finds f k (e ∷ es) [] = ⊤
Finds f k (e ∷ es) (l ∷ ls) = (l ≡ [] → 2 ≤ e.children → (entry_at es 0).head ≡ e.children → f k ≡ true) × Finds f (k + 1) es ls

early : (es fs : List NodeOutline) (c : ℕ) → 2 ≤ c → (entry_at es 0).head ≡ c → (entry_at (es ++ fs) 0).head ≡ c
early [] fs c two h = absurd (omega (arith, two, h))
early (e ∷ es) fs c two h = h

finds_both : (f : ℕ → Bool) (k : ℕ) (es fs : List NodeOutline) (ls ms : Lists) → length es ≡ length ls → Finds f k (es ++ fs) (ls ++ ms) → Finds f k es ls × Finds f (k + length es) fs ms
finds_both f k [] fs [] ms same h = let e : k ≡ k + 0 = omega arith in (tt, subst (λ j. Finds f j fs ms) e h)
finds_both f k [] fs (l ∷ ls) ms same h = absurd (omega (arith, same))
finds_both f k (e ∷ es) fs [] ms same h = absurd (omega (arith, same))
finds_both f k (e ∷ es) fs (l ∷ ls) ms same h =
    let r = finds_both f (k + 1) es fs ls ms (omega (arith, same)) h.1 in
    let j : (k + 1) + length es ≡ k + length (e ∷ es) = omega arith in
    (((λ none two head. h.0 none two (early es fs e.children two head)), r.0), subst (λ i. Finds f i fs ms) j r.1)

all_three : (c h p q : ℕ) → 2 ≤ c → h ≡ c → p ≡ q → (nat_le 2 c && (h == c && (p == q))) ≡ true
all_three c h p q two e f = grind (arith, two, e, f)

-- the test of a walk is one
found_from : (places : Numbers) (es : List NodeOutline) (k p : ℕ) (fs : List NodeOutline) (ls : Lists) → ((j : ℕ) → entry_at es (k + j) ≡ entry_at fs j) → ((j : ℕ) → slice_index places (k + j) ≡ slice_index (places_from p ls) j) →
    Finds (is_between places es) k fs ls
found_from places es k p [] ls e f = tt
found_from places es k p (x ∷ fs) [] e f = tt
found_from places es k p (x ∷ fs) (l ∷ ls) e f =
    let here : k + 0 ≡ k = omega arith in
    let own : entry_at es k ≡ x = ap (entry_at es) (sym here) ∙ e 0 in
    let next : entry_at es (k + 1) ≡ entry_at fs 0 = e 1 in
    let first : (m : ℕ) (ms : Lists) → slice_index (places_from m ms) 0 ≡ m = start in
    let place : slice_index places k ≡ p = ap (slice_index places) (sym here) ∙ f 0 in
    let behind : slice_index places (k + 1) ≡ p + length l = f 1 ∙ first (p + length l) ls in (
      (λ none two head.
          let children : (entry_at es k).children ≡ x.children = ap (λ (y : NodeOutline). y.children) own in
          let block : (entry_at es (k + 1)).head ≡ (entry_at fs 0).head = ap (λ (y : NodeOutline). y.head) next in
          let long : length l ≡ 0 = ap length none in
          all_three (entry_at es k).children (entry_at es (k + 1)).head (slice_index places k) (slice_index places (k + 1)) (omega (arith, two, children)) (omega (arith, block, head, children)) (omega (arith, place, behind, long))),
      found_from places es (k + 1) (p + length l) fs ls
          (λ j. let s : (k + 1) + j ≡ k + suc j = omega arith in ap (entry_at es) s ∙ e (suc j))
          (λ j. let s : (k + 1) + j ≡ k + suc j = omega arith in ap (slice_index places) s ∙ f (suc j)),
    )
  where
    start : (m : ℕ) (ms : Lists) → slice_index (places_from m ms) 0 ≡ m
    start m [] = refl
    start m (n ∷ ms) = refl

-- ---- lengths
abbrev rest_entries : List Node → List NodeOutline
rest_entries xs = flat_map (entries_with 0) (map outline xs)

one_length : (x : Node) → length (outline x).inner + 1 ≡ length (entered x)
one_length x = (outline_fits x).count ∙ sizes_entered x

rest_length : (xs : List Node) → length (rest_entries xs) ≡ length (flat_map entered xs)
rest_length [] = refl
rest_length (x ∷ xs) = omega (arith, one_length x, rest_length xs, length-append (entries_with 0 (outline x)) (rest_entries xs), length-append (entered x) (flat_map entered xs))

ends_length : (s : Numbers) (m k : ℕ) → length (ends s m k) ≡ m
ends_length s zero k = refl
ends_length s (suc m) k = ap suc (ends_length s m (k + slice_index s k))

first_length : (b : Bool) (from to : ℕ) (later : Numbers) → length (all_to from (drop (passed_over b) (to ∷ later))) + passed_over b ≡ length later + 1
first_length false from to later = omega (arith, length-map (to ∷ later) (range from))
first_length true from to later = omega (arith, length-map later (range from))

nodes_both : (f : ℕ → Bool) (s : Numbers) (k : ℕ) (es fs : List NodeOutline) → of_nodes f s k (es ++ fs) ≡ of_nodes f s k es ++ of_nodes f s (k + length es) fs
nodes_both f s k [] fs = let e : k ≡ k + 0 = omega arith in ap (λ j. of_nodes f s j fs) e
nodes_both f s k (e ∷ es) fs =
    let j : (k + 1) + length es ≡ k + length (e ∷ es) = omega arith in
    ap (λ l. along f s e.head k ++ l) (nodes_both f s (k + 1) es fs ∙ ap (λ i. of_nodes f s (k + 1) es ++ of_nodes f s i fs) j)
    ∙ sym (append_assoc (along f s e.head k) (of_nodes f s (k + 1) es) (of_nodes f s (k + length (e ∷ es)) fs))

-- ---- the induction
abbrev AreWide : Numbers → Type 0
AreWide = All (λ k. 2 ≤ k)

wide_left : (xs ys : Numbers) → AreWide (xs ++ ys) → AreWide xs
wide_left [] ys h = All-nil (λ k. 2 ≤ k)
wide_left (x ∷ xs) ys h = All-cons (λ k. 2 ≤ k) x xs (All-head (λ k. 2 ≤ k) x (xs ++ ys) h) (wide_left xs ys (All-tail (λ k. 2 ≤ k) x (xs ++ ys) h))

wide_right : (xs ys : Numbers) → AreWide (xs ++ ys) → AreWide ys
wide_right [] ys h = h
wide_right (x ∷ xs) ys h = wide_right xs ys (All-tail (λ k. 2 ≤ k) x (xs ++ ys) h)

abbrev is_bare : Node → Bool
is_bare x = between (vertices x) (map tally (blocks x))

record NodeCounted (x : Node) : Type 0 where
  found : (f : ℕ → Bool) (k head : ℕ) → AreWide (widths x) → Finds f k (entries_with head (outline x)) (entered x) → passed_over (is_bare x) ≤ passed_over (f k)
  counted : (f : ℕ → Bool) (a b : Numbers) (head : ℕ) → AreWide (widths x) → Finds f (length a) (entries_with head (outline x)) (entered x) →
      length (of_nodes f (among a (sizes x) b) (length a + 1) (outline x).inner) ≤ number x + passed_over (is_bare x)

abbrev BlockCounted : Block → Type 0
BlockCounted x = (f : ℕ → Bool) (a b : Numbers) → AreWide (block_widths x) → Finds f (length a) (block_entries (block_outline x)) (entered_block x) →
    length (of_nodes f (among a (block_sizes x) b) (length a) (block_entries (block_outline x))) ≤ (tally x).own + (tally x).under

nodes_counted : (xs : List Node) → AllByRecursion NodeCounted xs → (f : ℕ → Bool) (a b : Numbers) → AreWide (flat_map widths xs) → Finds f (length a) (rest_entries xs) (flat_map entered xs) →
    length (along f (among a (flat_map sizes xs) b) (length xs) (length a)) + length (of_nodes f (among a (flat_map sizes xs) b) (length a) (rest_entries xs)) ≤ triangle (length xs) + all_numbers xs
nodes_counted [] h f a b wide finds = omega arith
nodes_counted (x ∷ xs) h f a b wide finds =
    let o = outline x in
    let s = sizes x in
    let tail = flat_map sizes xs in
    let whole = among a (s ++ tail) b in
    let k = length a in
    let m = length xs in
    let here = entries_with 0 o in
    let rest = rest_entries xs in
    let own : length here ≡ length s = omega (arith, (outline_fits x).count) in
    let size : slice_index whole k ≡ length s = ap (λ w. slice_index w k) (sym (head_among a s tail b)) ∙ (outline_fits x).first a (tail ++ b) in
    let joint : length (a ++ s) ≡ k + length s = length-append a s in
    let hop : k + slice_index whole k ≡ length (a ++ s) = omega (arith, joint, size) in
    let next : k + length here ≡ length (a ++ s) = omega (arith, joint, own) in
    let parts = finds_both f k here rest (entered x) (flat_map entered xs) (omega (arith, one_length x)) finds in
    let later = nodes_counted xs h.1 f (a ++ s) b (wide_right (widths x) (flat_map widths xs) wide) (subst (λ j. Finds f j rest (flat_map entered xs)) next parts.1) in
    let moved : length (along f whole m (length (a ++ s))) + length (of_nodes f whole (length (a ++ s)) rest) ≤ triangle m + all_numbers xs =
    subst (λ w. length (along f w m (length (a ++ s))) + length (of_nodes f w (length (a ++ s)) rest) ≤ triangle m + all_numbers xs) (tail_among a s tail b) later in
    let wide_here = wide_left (widths x) (flat_map widths xs) wide in
    let inner : length (of_nodes f whole (k + 1) o.inner) ≤ number x + passed_over (is_bare x) =
    subst (λ w. length (of_nodes f w (k + 1) o.inner) ≤ number x + passed_over (is_bare x)) (head_among a s tail b) (h.0.counted f a (tail ++ b) 0 wide_here parts.0) in
    let first = all_to k (drop (passed_over (f k)) (ends whole (suc m) k)) in
    let lengths : length (along f whole (suc m) k) ≡ length first + length (along f whole m (length (a ++ s))) =
    length-append first (along f whole m (k + slice_index whole k)) ∙ ap (λ j. length first + length (along f whole m j)) hop in
    let nodes : length (of_nodes f whole k (here ++ rest)) ≡ length (of_nodes f whole (k + 1) o.inner) + length (of_nodes f whole (length (a ++ s)) rest) =
    ap length (nodes_both f whole k here rest) ∙ length-append (of_nodes f whole (k + 1) o.inner) (of_nodes f whole (k + length here) rest)
    ∙ ap (λ j. length (of_nodes f whole (k + 1) o.inner) + length (of_nodes f whole j rest)) next in
    omega (
      arith,
      lengths,
      nodes,
      moved,
      inner,
      h.0.found f k 0 wide_here parts.0,
      first_length (f k) k (k + slice_index whole k) (ends whole m (k + slice_index whole k)),
      ends_length whole m (k + slice_index whole k),
    )

-- a block is as the nodes of it, one after another
block_nodes : (f : ℕ → Bool) (s : Numbers) (k : ℕ) (xs : List Node) → length (of_nodes f s k (block_entries (map outline xs))) ≡ length (along f s (length xs) k) + length (of_nodes f s k (rest_entries xs))
block_nodes f s k [] = refl
block_nodes f s k (x ∷ xs) =
    let below = of_nodes f s (k + 1) ((outline x).inner ++ rest_entries xs) in
    let m : length (map outline (x ∷ xs)) ≡ length (x ∷ xs) = length-map (x ∷ xs) outline in
    ap (λ j. length (along f s j k ++ below)) m ∙ length-append (along f s (length (x ∷ xs)) k) below

block_finds : (f : ℕ → Bool) (k : ℕ) (xs : List Node) (ls : Lists) → Finds f k (block_entries (map outline xs)) ls → Finds f k (rest_entries xs) ls
block_finds f k [] ls h = h
block_finds f k (x ∷ xs) [] h = h
block_finds f k (x ∷ xs) (l ∷ ls) h = h

several : (b : Block) (xs : List Node) → AllByRecursion NodeCounted xs → block_outline b ≡ map outline xs → block_sizes b ≡ flat_map sizes xs → entered_block b ≡ flat_map entered xs →
    (AreWide (block_widths b) → AreWide (flat_map widths xs)) → triangle (length xs) + all_numbers xs ≡ (tally b).own + (tally b).under → BlockCounted b
several b xs h o s l w t f a c wide finds =
    let moved : Finds f (length a) (block_entries (map outline xs)) (flat_map entered xs) =
    subst (λ ls. Finds f (length a) (block_entries (map outline xs)) ls) l (subst (λ os. Finds f (length a) (block_entries os) (entered_block b)) o finds) in
    let count = nodes_counted xs h f a c (w wide) (block_finds f (length a) xs (flat_map entered xs) moved) in
    let same : length (of_nodes f (among a (block_sizes b) c) (length a) (block_entries (block_outline b))) ≡ length (of_nodes f (among a (flat_map sizes xs) c) (length a) (block_entries (map outline xs))) =
    ap (λ os. length (of_nodes f (among a (block_sizes b) c) (length a) (block_entries os))) o ∙ ap (λ z. length (of_nodes f (among a z c) (length a) (block_entries (map outline xs)))) s in
    omega (arith, same, block_nodes f (among a (flat_map sizes xs) c) (length a) xs, count, t)

bridge_case : (child : Box Node Global) → NodeCounted child.value → BlockCounted (Bridge child)
bridge_case child h =
    let x = child.value in
    several (Bridge child) (x ∷ []) (h, tt) (outline_bridge child) (sizes_bridge child ∙ sym (append-nil (sizes x))) (entered_bridge child ∙ sym (append-nil (entered x)))
    (λ w. subst AreWide (widths_bridge child ∙ sym (append-nil (widths x))) w)
    (omega (arith, ap (λ (t : Tally). t.own) (tally_bridge child), ap (λ (t : Tally). t.under) (tally_bridge child)))

wide_tail : (k : ℕ) (ks : Numbers) → AreWide (k ∷ ks) → AreWide ks
wide_tail k ks h = All-tail (λ j. 2 ≤ j) k ks h

cycle_case : (nodes : Children) → AllByRecursion NodeCounted (nodes_in nodes) → BlockCounted (Cycle nodes)
cycle_case nodes h =
    let xs = nodes_in nodes in
    several (Cycle nodes) xs h (outline_cycle nodes) (sizes_cycle nodes) (entered_cycle nodes)
    (λ w. wide_tail (length xs) (flat_map widths xs) (subst AreWide (ring_widths nodes) w))
    (omega (arith, ap (λ (t : Tally). t.own) (tally_cycle nodes), ap (λ (t : Tally). t.under) (tally_cycle nodes), ap triangle (length-map xs number)))

-- ---- several blocks
abbrev of_blocks : List Block → List NodeOutline
of_blocks bs = flat_map block_entries (map block_outline bs)

rest_of_block : (xs : List Node) → length (block_entries (map outline xs)) ≡ length (rest_entries xs)
rest_of_block [] = refl
rest_of_block (x ∷ xs) = refl

sizes_long : (xs : List Node) → length (flat_map sizes xs) ≡ length (flat_map entered xs)
sizes_long [] = refl
sizes_long (x ∷ xs) = omega (arith, sizes_entered x, sizes_long xs, length-append (sizes x) (flat_map sizes xs), length-append (entered x) (flat_map entered xs))

record IsLong (b : Block) : Type 0 where
  entries : length (block_entries (block_outline b)) ≡ length (entered_block b)
  sizes : length (block_sizes b) ≡ length (entered_block b)

long_of : (b : Block) (xs : List Node) → block_outline b ≡ map outline xs → block_sizes b ≡ flat_map sizes xs → entered_block b ≡ flat_map entered xs → IsLong b
long_of b xs o s l = record {
  entries = ap (λ os. length (block_entries os)) o ∙ rest_of_block xs ∙ rest_length xs ∙ sym (ap length l);
  sizes = ap length s ∙ sizes_long xs ∙ sym (ap length l);
}

block_long : (b : Block) → IsLong b
block_long b = elim (view b) [
  | inl h ↦ (
      let x = h.0.value in
      subst IsLong (sym h.1) (long_of (Bridge h.0) (x ∷ []) (outline_bridge h.0) (sizes_bridge h.0 ∙ sym (append-nil (sizes x))) (entered_bridge h.0 ∙ sym (append-nil (entered x)))))
  | inr h ↦ subst IsLong (sym h.1) (long_of (Cycle h.0) (nodes_in h.0) (outline_cycle h.0) (sizes_cycle h.0) (entered_cycle h.0))
]

blocks_counted : (bs : List Block) → AllByRecursion BlockCounted bs → (f : ℕ → Bool) (a b : Numbers) → AreWide (joined (map block_widths bs)) → Finds f (length a) (of_blocks bs) (flat_map entered_block bs) →
    length (of_nodes f (among a (flat_map block_sizes bs) b) (length a) (of_blocks bs)) ≤ all_own (map tally bs) + all_under (map tally bs)
blocks_counted [] h f a b wide finds = omega arith
blocks_counted (x ∷ xs) h f a b wide finds =
    let s = block_sizes x in
    let tail = flat_map block_sizes xs in
    let whole = among a (s ++ tail) b in
    let k = length a in
    let here = block_entries (block_outline x) in
    let rest = of_blocks xs in
    let long = block_long x in
    let next : k + length here ≡ length (a ++ s) = omega (arith, length-append a s, long.entries, long.sizes) in
    let parts = finds_both f k here rest (entered_block x) (flat_map entered_block xs) long.entries finds in
    let first : length (of_nodes f whole k here) ≤ (tally x).own + (tally x).under =
    subst (λ w. length (of_nodes f w k here) ≤ (tally x).own + (tally x).under) (head_among a s tail b)
    (h.0 f a (tail ++ b) (wide_left (block_widths x) (joined (map block_widths xs)) wide) parts.0) in
    let later : length (of_nodes f whole (length (a ++ s)) rest) ≤ all_own (map tally xs) + all_under (map tally xs) =
    subst (λ w. length (of_nodes f w (length (a ++ s)) rest) ≤ all_own (map tally xs) + all_under (map tally xs)) (tail_among a s tail b)
    (blocks_counted xs h.1 f (a ++ s) b (wide_right (block_widths x) (joined (map block_widths xs)) wide) (subst (λ j. Finds f j rest (flat_map entered_block xs)) next parts.1)) in
    let both : length (of_nodes f whole k (here ++ rest)) ≡ length (of_nodes f whole k here) + length (of_nodes f whole (length (a ++ s)) rest) =
    ap length (nodes_both f whole k here rest) ∙ length-append (of_nodes f whole k here) (of_nodes f whole (k + length here) rest)
    ∙ ap (λ j. length (of_nodes f whole k here) + length (of_nodes f whole j rest)) next in
    omega (arith, both, first, later)

-- ---- a node without a vertex above one block, a cycle
record IsBare (x : Node) : Type 0 where
  none : vertices x ≡ []
  nodes : Children
  one : blocks x ≡ Cycle nodes ∷ []

one_cycle : (bs : List Block) → length bs ≡ 1 → list_all (λ (t : Tally). t.is_cycle) (map tally bs) ≡ true → (nodes : Children) × (bs ≡ Cycle nodes ∷ [])
one_cycle [] e h = absurd (omega (arith, e))
one_cycle (b ∷ (c ∷ bs)) e h = absurd (omega (arith, e))
one_cycle (b ∷ []) e h = elim (view b) [
  | inl v ↦ absurd (false≢true (sym (ap (λ c. (tally c).is_cycle) v.1 ∙ ap (λ (t : Tally). t.is_cycle) (tally_bridge v.0)) ∙ (and_parts (tally b).is_cycle true h).0))
  | inr v ↦ (v.0, ap (λ c. c ∷ []) v.1)
]

bare_is : (x : Node) → is_bare x ≡ true → IsBare x
bare_is x h =
    let ts = map tally (blocks x) in
    let inner : Bool = list_all (λ (t : Tally). t.is_cycle) ts in
    let a = and_parts (length (vertices x) == 0) ((length ts == 1) && inner) h in
    let b = and_parts (length ts == 1) inner a.1 in
    let c = one_cycle (blocks x) (sym (length-map (blocks x) tally) ∙ eqb-true (length ts) 1 b.0) b.1 in
    record { none = nil_from_length (vertices x) (eqb-true (length (vertices x)) 0 a.0); nodes = c.0; one = c.1 }

first_head : (xs : List Node) → 1 ≤ length xs → (entry_at (block_entries (map outline xs) ++ []) 0).head ≡ length xs
first_head [] h = absurd (omega (arith, h))
first_head (x ∷ xs) h = length-map (x ∷ xs) outline

bare_found : (x : Node) → IsBare x → (f : ℕ → Bool) (k head : ℕ) → AreWide (widths x) → Finds f k (entries_with head (outline x)) (entered x) → f k ≡ true
bare_found x bare f k head wide finds =
    let xs = nodes_in bare.nodes in
    let oss : map block_outline (blocks x) ≡ map outline xs ∷ [] = ap (map block_outline) bare.one ∙ ap (λ os. os ∷ []) (outline_cycle bare.nodes) in
    let out : outline x ≡ record { children = length (map outline xs ++ []); inner = block_entries (map outline xs) ++ [] } =
    outline_out x ∙ ap (λ (l : List (List Outline)). (let o : Outline = record { children = length (all_outlines l); inner = flat_map block_entries l } in o)) oss in
    let many : length (map outline xs ++ []) ≡ length xs = ap length (append-nil (map outline xs)) ∙ length-map xs outline in
    let ks : widths x ≡ block_widths (Cycle bare.nodes) ++ [] = widths_out x ∙ ap (λ bs. joined (map block_widths bs)) bare.one in
    let wide_block : AreWide (length xs ∷ flat_map widths xs) = subst AreWide (ks ∙ append-nil (block_widths (Cycle bare.nodes)) ∙ ring_widths bare.nodes) wide in
    let two : 2 ≤ length xs = All-head (λ j. 2 ≤ j) (length xs) (flat_map widths xs) wide_block in
    let shown : Finds f k (record { children = length (map outline xs ++ []); head = head } ∷ (block_entries (map outline xs) ++ [])) (vertices x ∷ flat_map entered_block (blocks x)) =
    subst (λ ls. Finds f k (record { children = length (map outline xs ++ []); head = head } ∷ (block_entries (map outline xs) ++ [])) ls) (entered_out x)
    (subst (λ (o : Outline). Finds f k (entries_with head o) (entered x)) out finds) in
    shown.0 bare.none (omega (arith, many, two)) (first_head xs (omega (arith, two)) ∙ sym many)

found_small : (x : Node) (f : ℕ → Bool) (k head : ℕ) → AreWide (widths x) → Finds f k (entries_with head (outline x)) (entered x) → passed_over (is_bare x) ≤ passed_over (f k)
found_small x f k head wide finds = elim (cases_Bool (is_bare x)) [
  | inl bare ↦ (
      let a : passed_over (is_bare x) ≡ 1 = ap passed_over bare in
      let b : passed_over (f k) ≡ 1 = ap passed_over (bare_found x (bare_is x bare) f k head wide finds) in
      omega (arith, a, b))
  | inr none ↦ (let a : passed_over (is_bare x) ≡ 0 = ap passed_over none in omega (arith, a))
]

less_bit : (n : ℕ) (b : Bool) → n ≤ (n - (if b then 1 else 0)) + passed_over b
less_bit n true = omega arith
less_bit n false = omega arith

node_count : (x : Node) → AllByRecursion BlockCounted (blocks x) → (f : ℕ → Bool) (a b : Numbers) (head : ℕ) → AreWide (widths x) → Finds f (length a) (entries_with head (outline x)) (entered x) →
    length (of_nodes f (among a (sizes x) b) (length a + 1) (outline x).inner) ≤ number x + passed_over (is_bare x)
node_count x h f a b head wide finds =
    let bs = blocks x in
    let s = flat_map block_sizes bs in
    let top = length s + 1 in
    let inner : (outline x).inner ≡ of_blocks bs = ap (λ (o : Outline). o.inner) (outline_out x) in
    let shown : Finds f (length a) (entries_with head (outline x)) (vertices x ∷ flat_map entered_block bs) = subst (λ ls. Finds f (length a) (entries_with head (outline x)) ls) (entered_out x) finds in
    let start : length a + 1 ≡ length (a ++ top ∷ []) = sym (length-append a (top ∷ [])) in
    let below : Finds f (length (a ++ top ∷ [])) (of_blocks bs) (flat_map entered_block bs) =
    subst (λ k. Finds f k (of_blocks bs) (flat_map entered_block bs)) start (subst (λ es. Finds f (length a + 1) es (flat_map entered_block bs)) inner shown.1) in
    let whole : among (a ++ top ∷ []) s b ≡ among a (sizes x) b = append_assoc a (top ∷ []) (s ++ b) ∙ ap (λ z. among a z b) (sym (sizes_out x)) in
    let count = blocks_counted bs h f (a ++ top ∷ []) b (subst AreWide (widths_out x) wide) below in
    let same : length (of_nodes f (among a (sizes x) b) (length a + 1) (outline x).inner) ≡ length (of_nodes f (among (a ++ top ∷ []) s b) (length (a ++ top ∷ [])) (of_blocks bs)) =
    ap (λ es. length (of_nodes f (among a (sizes x) b) (length a + 1) es)) inner ∙ ap (λ k. length (of_nodes f (among a (sizes x) b) k (of_blocks bs))) start
    ∙ ap (λ w. length (of_nodes f w (length (a ++ top ∷ [])) (of_blocks bs))) (sym whole) in
    omega (arith, same, count, number_out x, less_bit (all_own (map tally bs)) (is_bare x))

node_case : (x : Node) → AllByRecursion BlockCounted (blocks x) → NodeCounted x
node_case x h = record { found = found_small x; counted = node_count x h }

-- ---- a whole tree
not_bare : (x : Node) → 1 ≤ length (vertices x) → is_bare x ≡ false
not_bare x h = elim (cases_Bool (is_bare x)) [
  | inl bare ↦ (let e : length (vertices x) ≡ 0 = ap length (bare_is x bare).none in absurd (omega (arith, e, h)))
  | inr none ↦ none
]

pub tree_counted : (x : Node) → AreWide (widths x) → 1 ≤ length (vertices x) →
    length (of_nodes (is_between (places_from 0 (entered x)) (outlined x)) (sizes x) 0 (outlined x)) ≤ number x
tree_counted x wide some =
    let f = is_between (places_from 0 (entered x)) (outlined x) in
    let finds : Finds f 0 (outlined x) (entered x) = found_from (places_from 0 (entered x)) (outlined x) 0 0 (outlined x) (entered x) (λ j. (let e : 0 + j ≡ j = omega arith in ap (entry_at (outlined x)) e)) (λ j. (let e : 0 + j ≡ j = omega arith in ap (slice_index (places_from 0 (entered x))) e)) in
    let count = node_count x (each BlockCounted (block_induction NodeCounted BlockCounted node_case bridge_case cycle_case) (blocks x)) f [] [] 0 wide finds in
    let whole : length (of_nodes f (sizes x) 0 (outlined x)) ≡ length (of_nodes f (among [] (sizes x) []) 1 (outline x).inner) = ap (λ w. length (of_nodes f w 1 (outline x).inner)) (sym (append-nil (sizes x))) in
    let none : passed_over (is_bare x) ≡ 0 = ap passed_over (not_bare x some) in
    omega (arith, whole, count, none)
