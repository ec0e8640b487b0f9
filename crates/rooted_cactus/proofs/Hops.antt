-- Subtrees that stand one after another, and what the outlines of nodes and blocks say of their sizes and their cuts.
use Rattle.std.proofs.Common.{◌≡◌, ℕ, suc, ◌+◌, ◌≤◌, ◌<◌, List, [], ◌∷◌, ◌++◌, length, take, refl, sym, ◌∙◌, ap, subst, arith}
use Rattle.std.specs.Prelude.{slice_index}
use Rattle.std.specs.List.{flat_map}
use Rattle.std.proofs.Math.Seq.{get_or-append_seam}
use Rattle.std.proofs.lemmas.List.{append-nil, append_assoc, length-append}
use Rattle.rooted_cactus.specs.Widths.{joined}
use Rattle.rooted_cactus.specs.CutRanges.{Range, Layout, sizes_in, ranges_from, interval_ranges, size_along, ranges_along, side_by_side, bridge_layout, cycle_layout, node_layout}
use Rattle.rooted_cactus.specs.Outlines.{Outline, Hops, entries_with, block_entries, all_outlines}
use Rattle.rooted_cactus.specs.Borders.{AllHop, hops_end, hops_more, ranges_to, ranges_between, borders_along, borders_at, all_borders}
use Rattle.rooted_cactus.specs.declared.tree.outline.NodeOutline.{NodeOutline}
use Rattle.rooted_cactus.specs.declared.tree.border.Border.{Border}

abbrev Numbers : Type 0
Numbers = List ℕ

-- the sizes of a tree among those of others
abbrev pub among : Numbers → Numbers → Numbers → Numbers
among a s b = a ++ (s ++ b)

-- an outline fits a layout and the sizes of the subtrees, wherever these stand
pub record IsOutlined (o : Outline) (q : Layout) (s : Numbers) : Type 0 where
  pub some : 0 < length s
  pub size : q.size ≡ length s
  pub count : length o.inner + 1 ≡ length s
  pub first : (a b : Numbers) → slice_index (among a s b) (length a) ≡ length s
  pub own : (a b : Numbers) → Hops (among a s b) o.children (length a + 1) (length a + length s)
  pub inner : (a b : Numbers) → AllHop (among a s b) (length a + 1) o.inner
  pub ranges : (a b : Numbers) (rest : List Border) → ranges_between (all_borders (among a s b) (length a + 1) o.inner ++ rest) ≡ q.ranges (length a) ++ ranges_between rest

-- the entries of several nodes, such as those of a block or of all blocks below a node, outline a layout
pub record AreEntries (nodes : ℕ) (es : List NodeOutline) (q : Layout) (s : Numbers) : Type 0 where
  pub size : q.size ≡ length s
  pub count : length es ≡ length s
  pub hops : (a b : Numbers) → Hops (among a s b) nodes (length a) (length a + length s)
  pub all : (a b : Numbers) → AllHop (among a s b) (length a) es
  pub ranges : (a b : Numbers) (rest : List Border) → ranges_between (all_borders (among a s b) (length a) es ++ rest) ≡ q.ranges (length a) ++ ranges_between rest

pub data AreOutlined : List Outline → List Layout → List Numbers → Type 0 where
  none : AreOutlined [] [] []
  more : (o : Outline) (os : List Outline) (q : Layout) (qs : List Layout) (s : Numbers) (ss : List Numbers) → IsOutlined o q s → AreOutlined os qs ss → AreOutlined (o ∷ os) (q ∷ qs) (s ∷ ss)

-- ---- lists among others
pub head_among : (a s t b : Numbers) → among a s (t ++ b) ≡ among a (s ++ t) b
head_among a s t b = ap (λ l. a ++ l) (sym (append_assoc s t b))

pub tail_among : (a s t b : Numbers) → among (a ++ s) t b ≡ among a (s ++ t) b
tail_among a s t b = append_assoc a s (t ++ b) ∙ head_among a s t b

hops_along : (s : Numbers) (count from from' to to' : ℕ) → from ≡ from' → to ≡ to' → Hops s count from to → Hops s count from' to'
hops_along s count from from' to to' e f h = subst (λ k. Hops s count k to') e (subst (Hops s count from) f h)

hops_both : {X : Type 0} (s : Numbers) (xs ys : List X) (from mid to : ℕ) → Hops s (length xs) from mid → Hops s (length ys) mid to → Hops s (length (xs ++ ys)) from to
hops_both s [] ys from mid to e h = subst (λ k. Hops s (length ys) k to) (sym e) h
hops_both s (x ∷ xs) ys from mid to g h = (g.0, hops_both s xs ys (from + slice_index s from) mid to g.1 h)

all_both : (s : Numbers) (k : ℕ) (es fs : List NodeOutline) → AllHop s k es → AllHop s (k + length es) fs → AllHop s k (es ++ fs)
all_both s k es fs (hops_end t j) h = let e : j + 0 ≡ j = omega arith in subst (λ m. AllHop t m fs) e h
all_both s k es fs (hops_more t j e es' at g) h =
    let f : j + length (e ∷ es') ≡ (j + 1) + length es' = omega arith in
    hops_more t j e (es' ++ fs) at (all_both t (j + 1) es' fs g (subst (λ m. AllHop t m fs) f h))

borders_both : (s : Numbers) (k : ℕ) (es fs : List NodeOutline) → all_borders s k (es ++ fs) ≡ all_borders s k es ++ all_borders s (k + length es) fs
borders_both s k [] fs = let e : k ≡ k + 0 = omega arith in ap (λ m. all_borders s m fs) e
borders_both s k (e ∷ es) fs =
    let f : (k + 1) + length es ≡ k + length (e ∷ es) = omega arith in
    ap (λ l. borders_at s e.head k ++ l) (borders_both s (k + 1) es fs ∙ ap (λ m. all_borders s (k + 1) es ++ all_borders s m fs) f)
    ∙ sym (append_assoc (borders_at s e.head k) (all_borders s (k + 1) es) (all_borders s (k + length (e ∷ es)) fs))

-- ---- several subtrees
side_size : (os : List Outline) (qs : List Layout) (ss : List Numbers) → AreOutlined os qs ss → size_along qs ≡ length (joined ss)
side_size os qs ss none = refl
side_size os qs ss (more o os' q qs' s ss' h t) = omega (arith, h.size, side_size os' qs' ss' t, length-append s (joined ss'))

side_hops : (os : List Outline) (qs : List Layout) (ss : List Numbers) → AreOutlined os qs ss → (a b : Numbers) → Hops (among a (joined ss) b) (length os) (length a) (length a + length (joined ss))
side_hops os qs ss none a b = omega arith
side_hops os qs ss (more o os' q qs' s ss' h t) a b =
    let rest = joined ss' in
    let whole = among a (s ++ rest) b in
    let size : slice_index whole (length a) ≡ length s = ap (λ w. slice_index w (length a)) (sym (head_among a s rest b)) ∙ h.first a (rest ++ b) in
    let all : length whole ≡ length a + (length (s ++ rest) + length b) = length-append a ((s ++ rest) ++ b) ∙ ap (λ k. length a + k) (length-append (s ++ rest) b) in
    let both : length (s ++ rest) ≡ length s + length rest = length-append s rest in
    let start : length (a ++ s) ≡ length a + slice_index whole (length a) = omega (arith, length-append a s, size) in
    let ends : length (a ++ s) + length rest ≡ length a + length (s ++ rest) = omega (arith, length-append a s, both) in
    let next : Hops whole (length os') (length (a ++ s)) (length (a ++ s) + length rest) = subst (λ w. Hops w (length os') (length (a ++ s)) (length (a ++ s) + length rest)) (tail_among a s rest b) (side_hops os' qs' ss' t (a ++ s) b) in
    (omega (arith, h.some, all, both), hops_along whole (length os') (length (a ++ s)) (length a + slice_index whole (length a)) (length (a ++ s) + length rest) (length a + length (s ++ rest)) start ends next)

-- the entries of nodes that are the first of no block
abbrev rest_entries : List Outline → List NodeOutline
rest_entries = flat_map (entries_with 0)

entries_length : (head : ℕ) (o : Outline) (q : Layout) (s : Numbers) → IsOutlined o q s → length (entries_with head o) ≡ length s
entries_length head o q s h = omega (arith, h.count)

rest_length : (os : List Outline) (qs : List Layout) (ss : List Numbers) → AreOutlined os qs ss → length (rest_entries os) ≡ length (joined ss)
rest_length os qs ss none = refl
rest_length os qs ss (more o os' q qs' s ss' h t) =
    omega (arith, entries_length 0 o q s h, rest_length os' qs' ss' t, length-append s (joined ss'), length-append (entries_with 0 o) (rest_entries os'))

block_length : (os : List Outline) (qs : List Layout) (ss : List Numbers) → AreOutlined os qs ss → length (block_entries os) ≡ length (joined ss)
block_length os qs ss none = refl
block_length os qs ss (more o os' q qs' s ss' h t) =
    omega (arith, entries_length (length (o ∷ os')) o q s h, rest_length os' qs' ss' t, length-append s (joined ss'), length-append (entries_with (length (o ∷ os')) o) (rest_entries os'))

-- one node, with its head
pub one_hops : (head end : ℕ) (o : Outline) (q : Layout) (s a b : Numbers) → IsOutlined o q s → end ≤ length (among a s b) → Hops (among a s b) head (length a) end → AllHop (among a s b) (length a) (entries_with head o)
one_hops head end o q s a b h le block =
    let whole = among a s b in
    let ends : length a + length s ≡ length a + slice_index whole (length a) = ap (λ k. length a + k) (sym (h.first a b)) in
    hops_more whole (length a) record { children = o.children; head = head } o.inner
    record { children = subst (Hops whole o.children (length a + 1)) ends (h.own a b); inside = omega (arith, h.first a b, length-append a (s ++ b), length-append s b); end = end; within = le; block = block }
    (h.inner a b)

rest_hops : (os : List Outline) (qs : List Layout) (ss : List Numbers) → AreOutlined os qs ss → (a b : Numbers) → AllHop (among a (joined ss) b) (length a) (rest_entries os)
rest_hops os qs ss none a b = hops_end (among a [] b) (length a)
rest_hops os qs ss (more o os' q qs' s ss' h t) a b =
    let rest = joined ss' in
    let whole = among a (s ++ rest) b in
    let within : length a ≤ length (among a s (rest ++ b)) = omega (arith, length-append a (s ++ (rest ++ b))) in
    let here : AllHop whole (length a) (entries_with 0 o) = subst (λ w. AllHop w (length a) (entries_with 0 o)) (head_among a s rest b) (one_hops 0 (length a) o q s a (rest ++ b) h within refl) in
    let start : length (a ++ s) ≡ length a + length (entries_with 0 o) = omega (arith, length-append a s, entries_length 0 o q s h) in
    let there : AllHop whole (length (a ++ s)) (rest_entries os') = subst (λ w. AllHop w (length (a ++ s)) (rest_entries os')) (tail_among a s rest b) (rest_hops os' qs' ss' t (a ++ s) b) in
    all_both whole (length a) (entries_with 0 o) (rest_entries os') here (subst (λ k. AllHop whole k (rest_entries os')) start there)

block_hops : (os : List Outline) (qs : List Layout) (ss : List Numbers) → AreOutlined os qs ss → (a b : Numbers) → AllHop (among a (joined ss) b) (length a) (block_entries os)
block_hops os qs ss none a b = hops_end (among a [] b) (length a)
block_hops os qs ss (more o os' q qs' s ss' h t) a b =
    let n = length (o ∷ os') in
    let rest = joined ss' in
    let whole = among a (s ++ rest) b in
    let end = length a + length (s ++ rest) in
    let all : Hops whole n (length a) end = side_hops (o ∷ os') (q ∷ qs') (s ∷ ss') (more o os' q qs' s ss' h t) a b in
    let moved : Hops (among a s (rest ++ b)) n (length a) end = subst (λ w. Hops w n (length a) end) (sym (head_among a s rest b)) all in
    let within : end ≤ length (among a s (rest ++ b)) =
    omega (arith, length-append a (s ++ (rest ++ b)), length-append s (rest ++ b), length-append rest b, length-append s rest) in
    let here : AllHop whole (length a) (entries_with n o) = subst (λ w. AllHop w (length a) (entries_with n o)) (head_among a s rest b) (one_hops n end o q s a (rest ++ b) h within moved) in
    let start : length (a ++ s) ≡ length a + length (entries_with n o) = omega (arith, length-append a s, entries_length n o q s h) in
    let there : AllHop whole (length (a ++ s)) (rest_entries os') = subst (λ w. AllHop w (length (a ++ s)) (rest_entries os')) (tail_among a s rest b) (rest_hops os' qs' ss' t (a ++ s) b) in
    all_both whole (length a) (entries_with n o) (rest_entries os') here (subst (λ k. AllHop whole k (rest_entries os')) start there)

-- ---- the ranges between borders
to_borders : (os : List Outline) (qs : List Layout) (ss : List Numbers) → AreOutlined os qs ss → (a b : Numbers) (from : ℕ) (rest : List Border) →
    ranges_to from (take (suc (length os)) (borders_along (among a (joined ss) b) (length os) (length a) ++ rest)) ≡ ranges_from from (length a) (sizes_in qs)
to_borders os qs ss none a b from rest = refl
to_borders os qs ss (more o os' q qs' s ss' h t) a b from rest =
    let tail = joined ss' in
    let whole = among a (s ++ tail) b in
    let size : slice_index whole (length a) ≡ length s = ap (λ w. slice_index w (length a)) (sym (head_among a s tail b)) ∙ h.first a (tail ++ b) in
    let start : length a + slice_index whole (length a) ≡ length (a ++ s) = omega (arith, length-append a s, size) in
    let next : length (a ++ s) ≡ length a + q.size = omega (arith, length-append a s, h.size) in
    ap (λ l. record { from = from; to = length a } ∷ l)
    (ap (λ k. ranges_to from (take (suc (length os')) (borders_along whole (length os') k ++ rest))) start
    ∙ ap (λ w. ranges_to from (take (suc (length os')) (borders_along w (length os') (length (a ++ s)) ++ rest))) (sym (tail_among a s tail b))
    ∙ to_borders os' qs' ss' t (a ++ s) b from rest
    ∙ ap (λ k. ranges_from from k (sizes_in qs')) next)

block_borders : (os : List Outline) (qs : List Layout) (ss : List Numbers) → AreOutlined os qs ss → (a b : Numbers) (rest : List Border) →
    ranges_between (borders_along (among a (joined ss) b) (length os) (length a) ++ rest) ≡ interval_ranges (sizes_in qs) (length a) ++ ranges_between rest
block_borders os qs ss none a b rest = refl
block_borders os qs ss (more o os' q qs' s ss' h t) a b rest =
    let tail = joined ss' in
    let whole = among a (s ++ tail) b in
    let size : slice_index whole (length a) ≡ length s = ap (λ w. slice_index w (length a)) (sym (head_among a s tail b)) ∙ h.first a (tail ++ b) in
    let start : length a + slice_index whole (length a) ≡ length (a ++ s) = omega (arith, length-append a s, size) in
    let next : length (a ++ s) ≡ length a + q.size = omega (arith, length-append a s, h.size) in
    let moved : borders_along whole (length os') (length a + slice_index whole (length a)) ≡ borders_along (among (a ++ s) tail b) (length os') (length (a ++ s)) =
    ap (borders_along whole (length os')) start ∙ ap (λ w. borders_along w (length os') (length (a ++ s))) (sym (tail_among a s tail b)) in
    let first : ranges_to (length a) (take (suc (length os')) (borders_along (among (a ++ s) tail b) (length os') (length (a ++ s)) ++ rest)) ≡ ranges_from (length a) (length a + q.size) (sizes_in qs') =
    to_borders os' qs' ss' t (a ++ s) b (length a) rest ∙ ap (λ k. ranges_from (length a) k (sizes_in qs')) next in
    let others : ranges_between (borders_along (among (a ++ s) tail b) (length os') (length (a ++ s)) ++ rest) ≡ interval_ranges (sizes_in qs') (length a + q.size) ++ ranges_between rest =
    block_borders os' qs' ss' t (a ++ s) b rest ∙ ap (λ k. interval_ranges (sizes_in qs') k ++ ranges_between rest) next in
    ap (λ l. ranges_to (length a) (take (suc (length os')) (l ++ rest)) ++ ranges_between (l ++ rest)) moved
    ∙ ap (λ l. l ++ ranges_between (borders_along (among (a ++ s) tail b) (length os') (length (a ++ s)) ++ rest)) first
    ∙ ap (λ l. ranges_from (length a) (length a + q.size) (sizes_in qs') ++ l) others
    ∙ sym (append_assoc (ranges_from (length a) (length a + q.size) (sizes_in qs')) (interval_ranges (sizes_in qs') (length a + q.size)) (ranges_between rest))

rest_ranges : (os : List Outline) (qs : List Layout) (ss : List Numbers) → AreOutlined os qs ss → (a b : Numbers) (rest : List Border) →
    ranges_between (all_borders (among a (joined ss) b) (length a) (rest_entries os) ++ rest) ≡ ranges_along qs (length a) ++ ranges_between rest
rest_ranges os qs ss none a b rest = refl
rest_ranges os qs ss (more o os' q qs' s ss' h t) a b rest =
    let tail = joined ss' in
    let whole = among a (s ++ tail) b in
    let k = length a in
    let start : k + length (entries_with 0 o) ≡ length (a ++ s) = omega (arith, length-append a s, entries_length 0 o q s h) in
    let next : length (a ++ s) ≡ k + q.size = omega (arith, length-append a s, h.size) in
    let others = all_borders (among (a ++ s) tail b) (length (a ++ s)) (rest_entries os') in
    let split : all_borders whole k (entries_with 0 o ++ rest_entries os') ≡ all_borders (among a s (tail ++ b)) (k + 1) o.inner ++ others =
    borders_both whole k (entries_with 0 o) (rest_entries os')
    ∙ ap (λ m. all_borders whole (k + 1) o.inner ++ all_borders whole m (rest_entries os')) start
    ∙ ap (λ w. all_borders w (k + 1) o.inner ++ all_borders whole (length (a ++ s)) (rest_entries os')) (sym (head_among a s tail b))
    ∙ ap (λ w. all_borders (among a s (tail ++ b)) (k + 1) o.inner ++ all_borders w (length (a ++ s)) (rest_entries os')) (sym (tail_among a s tail b)) in
    ap (λ l. ranges_between (l ++ rest)) split
    ∙ ap ranges_between (append_assoc (all_borders (among a s (tail ++ b)) (k + 1) o.inner) others rest)
    ∙ h.ranges a (tail ++ b) (others ++ rest)
    ∙ ap (λ l. q.ranges k ++ l) (rest_ranges os' qs' ss' t (a ++ s) b rest ∙ ap (λ m. ranges_along qs' m ++ ranges_between rest) next)
    ∙ sym (append_assoc (q.ranges k) (ranges_along qs' (k + q.size)) (ranges_between rest))

block_ranges : (os : List Outline) (qs : List Layout) (ss : List Numbers) → AreOutlined os qs ss → (a b : Numbers) (rest : List Border) →
    ranges_between (all_borders (among a (joined ss) b) (length a) (block_entries os) ++ rest) ≡ (cycle_layout qs).ranges (length a) ++ ranges_between rest
block_ranges os qs ss none a b rest = refl
block_ranges os qs ss (more o os' q qs' s ss' h t) a b rest =
    let tail = joined ss' in
    let whole = among a (s ++ tail) b in
    let k = length a in
    let n = length (o ∷ os') in
    let own = borders_along whole n k in
    let below = all_borders whole (k + 1) (o.inner ++ rest_entries os') in
    let plain : ranges_between (below ++ rest) ≡ ranges_along (q ∷ qs') k ++ ranges_between rest = rest_ranges (o ∷ os') (q ∷ qs') (s ∷ ss') (more o os' q qs' s ss' h t) a b rest in
    ap ranges_between (append_assoc own below rest)
    ∙ block_borders (o ∷ os') (q ∷ qs') (s ∷ ss') (more o os' q qs' s ss' h t) a b (below ++ rest)
    ∙ ap (λ l. interval_ranges (sizes_in (q ∷ qs')) k ++ l) plain
    ∙ sym (append_assoc (interval_ranges (sizes_in (q ∷ qs')) k) (ranges_along (q ∷ qs') k) (ranges_between rest))

pub cycle_entries : (os : List Outline) (qs : List Layout) (ss : List Numbers) → AreOutlined os qs ss → AreEntries (length os) (block_entries os) (cycle_layout qs) (joined ss)
cycle_entries os qs ss h = record {
  size = side_size os qs ss h;
  count = block_length os qs ss h;
  hops = side_hops os qs ss h;
  all = block_hops os qs ss h;
  ranges = block_ranges os qs ss h;
}

same_layout : (m n : ℕ) (f g : ℕ → List Range) → m ≡ n → ((k : ℕ) → f k ≡ g k) → (let p : Layout = record { size = m; ranges = f } in p) ≡ record { size = n; ranges = g }
same_layout m n f g e h = λ i. record { size = e i; ranges = λ k. h k i }

-- a bridge is as a cycle of one node
one_layout : (q : Layout) → cycle_layout (q ∷ []) ≡ bridge_layout q
one_layout q = same_layout _ _ _ _ (omega arith) (λ k. ap (λ l. record { from = k; to = k + q.size } ∷ l) (append-nil (q.ranges k)))

pub bridge_entries : (o : Outline) (q : Layout) (s : Numbers) → IsOutlined o q s → AreEntries 1 (block_entries (o ∷ [])) (bridge_layout q) s
bridge_entries o q s h =
    subst (λ p. AreEntries 1 (block_entries (o ∷ [])) p s) (one_layout q)
    (subst (AreEntries 1 (block_entries (o ∷ [])) (cycle_layout (q ∷ []))) (append-nil s) (cycle_entries (o ∷ []) (q ∷ []) (s ∷ []) (more o [] q [] s [] h none)))

-- ---- several blocks
pub data AreBlocks : List (List Outline) → List Layout → List Numbers → Type 0 where
  no_block : AreBlocks [] [] []
  one_block : (os : List Outline) (oss : List (List Outline)) (q : Layout) (qs : List Layout) (s : Numbers) (ss : List Numbers) → AreEntries (length os) (block_entries os) q s → AreBlocks oss qs ss → AreBlocks (os ∷ oss) (q ∷ qs) (s ∷ ss)

pub blocks_entries : (oss : List (List Outline)) (qs : List Layout) (ss : List Numbers) → AreBlocks oss qs ss → AreEntries (length (all_outlines oss)) (flat_map block_entries oss) (side_by_side qs) (joined ss)
blocks_entries oss qs ss no_block = record {
  size = refl;
  count = refl;
  hops = λ a b. omega arith;
  all = λ a b. hops_end (among a [] b) (length a);
  ranges = λ a b rest. refl;
}
blocks_entries oss qs ss (one_block os oss' q qs' s ss' h t) =
    let r = blocks_entries oss' qs' ss' t in
    let tail = joined ss' in
    let es = block_entries os in
    let fs = flat_map block_entries oss' in
    record {
      size = omega (arith, h.size, r.size, length-append s tail);
      count = omega (arith, h.count, r.count, length-append s tail, length-append es fs);
      hops = λ a b.
          let whole = among a (s ++ tail) b in
          let start : length a + length s ≡ length (a ++ s) = sym (length-append a s) in
          let ends : length (a ++ s) + length tail ≡ length a + length (s ++ tail) = omega (arith, length-append a s, length-append s tail) in
          let here : Hops whole (length os) (length a) (length (a ++ s)) = subst (λ w. Hops w (length os) (length a) (length (a ++ s))) (head_among a s tail b) (subst (Hops (among a s (tail ++ b)) (length os) (length a)) start (h.hops a (tail ++ b))) in
          let there : Hops whole (length (all_outlines oss')) (length (a ++ s)) (length a + length (s ++ tail)) =
          subst (λ w. Hops w (length (all_outlines oss')) (length (a ++ s)) (length a + length (s ++ tail))) (tail_among a s tail b) (subst (Hops (among (a ++ s) tail b) (length (all_outlines oss')) (length (a ++ s))) ends (r.hops (a ++ s) b)) in
          hops_both whole os (all_outlines oss') (length a) (length (a ++ s)) (length a + length (s ++ tail)) here there;
      all = λ a b.
          let whole = among a (s ++ tail) b in
          let start : length (a ++ s) ≡ length a + length es = omega (arith, length-append a s, h.count) in
          let here : AllHop whole (length a) es = subst (λ w. AllHop w (length a) es) (head_among a s tail b) (h.all a (tail ++ b)) in
          let there : AllHop whole (length (a ++ s)) fs = subst (λ w. AllHop w (length (a ++ s)) fs) (tail_among a s tail b) (r.all (a ++ s) b) in
          all_both whole (length a) es fs here (subst (λ k. AllHop whole k fs) start there);
      ranges = λ a b rest.
          let whole = among a (s ++ tail) b in
          let k = length a in
          let start : k + length es ≡ length (a ++ s) = omega (arith, length-append a s, h.count) in
          let next : length (a ++ s) ≡ k + q.size = omega (arith, length-append a s, h.size) in
          let others = all_borders (among (a ++ s) tail b) (length (a ++ s)) fs in
          let split : all_borders whole k (es ++ fs) ≡ all_borders (among a s (tail ++ b)) k es ++ others =
          borders_both whole k es fs
          ∙ ap (λ m. all_borders whole k es ++ all_borders whole m fs) start
          ∙ ap (λ w. all_borders w k es ++ all_borders whole (length (a ++ s)) fs) (sym (head_among a s tail b))
          ∙ ap (λ w. all_borders (among a s (tail ++ b)) k es ++ all_borders w (length (a ++ s)) fs) (sym (tail_among a s tail b)) in
          ap (λ l. ranges_between (l ++ rest)) split
          ∙ ap ranges_between (append_assoc (all_borders (among a s (tail ++ b)) k es) others rest)
          ∙ h.ranges a (tail ++ b) (others ++ rest)
          ∙ ap (λ l. q.ranges k ++ l) (r.ranges (a ++ s) b rest ∙ ap (λ m. ranges_along qs' m ++ ranges_between rest) next)
          ∙ sym (append_assoc (q.ranges k) (ranges_along qs' (k + q.size)) (ranges_between rest));
    }

-- a node above the blocks below it
pub node_outlined : (count : ℕ) (es : List NodeOutline) (q : Layout) (s : Numbers) → AreEntries count es q s → IsOutlined record { children = count; inner = es } (node_layout q) ((length s + 1) ∷ s)
node_outlined count es q s h =
    let top = length s + 1 in
    record {
      some = omega arith;
      size = omega (arith, h.size);
      count = omega (arith, h.count);
      first = λ a b. let e : top ≡ length (top ∷ s) = omega arith in get_or-append_seam a top (s ++ b) 0 ∙ e;
      own = λ a b.
          let start : length (a ++ top ∷ []) ≡ length a + 1 = length-append a (top ∷ []) in
          let ends : length (a ++ top ∷ []) + length s ≡ length a + length (top ∷ s) = omega (arith, length-append a (top ∷ [])) in
          let whole : among (a ++ top ∷ []) s b ≡ among a (top ∷ s) b = append_assoc a (top ∷ []) (s ++ b) in
          subst (λ w. Hops w count (length a + 1) (length a + length (top ∷ s))) whole
          (hops_along (among (a ++ top ∷ []) s b) count (length (a ++ top ∷ [])) (length a + 1) (length (a ++ top ∷ []) + length s) (length a + length (top ∷ s)) start ends (h.hops (a ++ top ∷ []) b));
      inner = λ a b.
          let start : length (a ++ top ∷ []) ≡ length a + 1 = length-append a (top ∷ []) in
          let whole : among (a ++ top ∷ []) s b ≡ among a (top ∷ s) b = append_assoc a (top ∷ []) (s ++ b) in
          subst (λ w. AllHop w (length a + 1) es) whole (subst (λ k. AllHop (among (a ++ top ∷ []) s b) k es) start (h.all (a ++ top ∷ []) b));
      ranges = λ a b rest.
          let start : length (a ++ top ∷ []) ≡ length a + 1 = length-append a (top ∷ []) in
          let whole : among (a ++ top ∷ []) s b ≡ among a (top ∷ s) b = append_assoc a (top ∷ []) (s ++ b) in
          ap (λ w. ranges_between (all_borders w (length a + 1) es ++ rest)) (sym whole)
          ∙ ap (λ k. ranges_between (all_borders (among (a ++ top ∷ []) s b) k es ++ rest)) (sym start)
          ∙ h.ranges (a ++ top ∷ []) b rest
          ∙ ap (λ k. q.ranges k ++ ranges_between rest) start;
    }
