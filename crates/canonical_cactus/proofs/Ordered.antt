-- The blocks of a node in the order of their least vertices, and the children of a cycle in the one direction that is meant.
use Rattle.std.proofs.Common.{◌≡◌, ℕ, suc, ◌-◌, ◌≤◌, ◌<◌, inl, inr, Bool, true, false, cond, get_or, Option, None, List, [], ◌∷◌, ◌++◌, length, map, ap, ◌∙◌, sym, refl, subst, arith}
use Rattle.std.specs.Prelude.{nat_lt}
use Rattle.std.specs.List.{Contains, flat_map}
use Rattle.std.specs.List.Sorted.{IsPermutation, IsNonDecreasingBy}
use Rattle.std.proofs.lemmas.Bool.{cases_Bool, lt-ltb, false≢true, cases_lt}
use Rattle.std.proofs.lemmas.List.{append_assoc, append-nil}
use Rattle.std.proofs.lemmas.List.Elements.{All-head, All-tail}
use Rattle.std.proofs.lemmas.List.Sorted.{Contains-permutation, IsPermutation-map, IsPermutation-sym, IsPermutation-refl, IsPermutation-trans, IsPermutation-cons, IsPermutation-to_front}
use Rattle.std.proofs.lemmas.List.Folds.{flat_map-map}
use Rattle.cut_definitions.specs.Cuts.{has, least}
use Rattle.cut_definitions.proofs.Lists.{Contains-here, Contains-there, Contains-cons_cases, Contains-nil}
use Rattle.rooted_cactus.specs.Sides.{part, block_part, nothing}
use Rattle.rooted_cactus.specs.Trees.{vertices, blocks, nodes_in}
use Rattle.rooted_cactus.specs.Entered.{entered, entered_block}
use Rattle.rooted_cactus.specs.Entries.{Read, top_first, lists_read, counts_read, cycle_read, node_read}
use Rattle.rooted_cactus.specs.Trims.{Each, SameSets, trimmed_node}
use Rattle.rooted_cactus.specs.declared.tree.Node.{Node}
use Rattle.rooted_cactus.specs.declared.tree.Block.{Block}
use Rattle.rooted_cactus.specs.declared.tree.Children.{Children}
use Rattle.rooted_cactus.specs.declared.tree.Block.TheVariants.{Cycle}
use Rattle.rooted_cactus.proofs.Cycles.{cycle_cuts}
use Rattle.rooted_cactus.proofs.Trims.{own_cut, each_shows, lists_together}
use Rattle.rooted_cactus.proofs.Makes.{each_length, each_map}
use Rattle.rooted_cactus.proofs.Tops.{top_map}
use Rattle.rooted_cactus.proofs.Covered.{block_listed, node_listed}
use Rattle.canonical_cactus.specs.Canonical.{Arranged, arranged, arranged_block, all_vertices, ascend, leasts, rises}
use Rattle.canonical_cactus.specs.Standing.{least_in, lesser_of, or_zero}
use Rattle.canonical_cactus.specs.Making.{AreApart, ShowsChild, ShowsBlock, IsGood, IsNodeOf, IsChildOf, IsBlockOf, AreBlocksOf, AreChildrenOf, AreNodesOf, key_of, last_of, ends_rise, faced}
use Rattle.canonical_cactus.specs.declared.parts.Placed.{Placed}
use Rattle.canonical_cactus.specs.declared.parts.Hung.{Hung}
use Rattle.canonical_cactus.proofs.Arrangement.{node_covered, block_covered, arranged_out, arranged_cycle}
use Rattle.canonical_cactus.proofs.Ascending.{least_both, zero_least}
use Rattle.rooted_cactus.proofs.Moved.{count_moved}
use Rattle.canonical_cactus.proofs.Spaced.{apart_right, differ, ascends, last_there, rises_forth, rises_back}
use Rattle.canonical_cactus.proofs.Turned.{cycle_turned}
use Rattle.canonical_cactus.proofs.Spared.{in_cycle, trimmed_shows}
use Rattle.canonical_cactus.proofs.Finished.{GoodChildren, GoodBlocks, children_head, children_tail, blocks_head, blocks_tail, cycle_made, node_made}

abbrev pub node_in : Placed → Node
node_in p = p.node

abbrev pub child_in : Placed → Node
child_in p = trimmed_node p.node

abbrev pub least_at : Placed → Option ℕ
least_at p = p.least

abbrev pub block_in : Hung → Block
block_in h = h.block

-- ---- lists
map_twice : {X Y Z : Type 0} (f : Y → Z) (g : X → Y) (xs : List X) → map f (map g xs) ≡ map (λ x. f (g x)) xs
map_twice f g [] = refl
map_twice f g (x ∷ xs) = ap (λ l. f (g x) ∷ l) (map_twice f g xs)

pub turned_moves : {X : Type 0} (xs : List X) → IsPermutation xs (top_first xs)
turned_moves [] = IsPermutation-refl []
turned_moves (x ∷ xs) =
    IsPermutation-trans (x ∷ xs) (x ∷ top_first xs) (top_first xs ++ x ∷ []) (IsPermutation-cons x xs (top_first xs) (turned_moves xs))
    (IsPermutation-sym (top_first xs ++ x ∷ []) (x ∷ top_first xs) (IsPermutation-to_front (top_first xs) x))

-- ---- the least of several vertices, one after another
abbrev pub lessers : Option ℕ → List (Option ℕ) → Option ℕ
lessers o [] = o
lessers o (p ∷ ps) = lessers (lesser_of o p) ps

module _ {X : Type 0} (f : X → Arranged) (least_of : X → Option ℕ) where
  pub lessers_are : (vs : List ℕ) (xs : List X) → ((x : X) → Contains xs x → least_of x ≡ least_in (f x).vertices) → lessers (least_in vs) (map least_of xs) ≡ least_in (vs ++ all_vertices (map f xs))
  lessers_are vs [] h = ap least_in (sym (append-nil vs))
  lessers_are vs (x ∷ xs) h =
      ap (λ o. lessers (lesser_of (least_in vs) o) (map least_of xs)) (h x (Contains-here x xs))
      ∙ ap (λ o. lessers o (map least_of xs)) (sym (least_both vs (f x).vertices))
      ∙ lessers_are (vs ++ (f x).vertices) xs (λ y k. h y (Contains-there x xs y k))
      ∙ ap least_in (append_assoc vs (f x).vertices (all_vertices (map f xs)))

  pub keys_are : (xs : List X) → ((x : X) → Contains xs x → least_of x ≡ least_in (f x).vertices) → map (λ x. or_zero (least_of x)) xs ≡ leasts (map f xs)
  keys_are [] h = refl
  keys_are (x ∷ xs) h =
      ap (λ k. k ∷ map (λ y. or_zero (least_of y)) xs) (ap or_zero (h x (Contains-here x xs)) ∙ zero_least (f x).vertices)
      ∙ ap (λ l. least (f x).vertices ∷ l) (keys_are xs (λ y k. h y (Contains-there x xs y k)))

-- ---- the blocks of a node
block_some : (r : Read) (b : Block) → IsGood r.part.cuts r → ShowsBlock r b → (arranged_block b).vertices ≡ [] → ⊥
block_some r b g s e =
    g.normal.cuts (subst (λ t. Contains r.part.cuts t) (sym (block_covered b) ∙ ap has e) ((s.normal.cuts (block_part b).below).0 (own_cut b s.normal.fine)))

blocks_some : (rs : List Read) (hs : List Hung) → AreBlocksOf rs hs → GoodBlocks rs → (h : Hung) → Contains hs h → (arranged_block h.block).vertices ≡ [] → ⊥
blocks_some [] [] a g h k = absurd (Contains-nil h k)
blocks_some [] (j ∷ hs) a g h k = absurd a
blocks_some (r ∷ rs) [] a g h k = absurd a
blocks_some (r ∷ rs) (j ∷ hs) a g h k = elim (Contains-cons_cases j hs h k) [
  | inl e ↦ subst (λ (i : Hung). (arranged_block i.block).vertices ≡ [] → ⊥) e (block_some r j.block (blocks_head r rs g) (a.0.shows (blocks_head r rs g)))
  | inr t ↦ blocks_some rs hs a.1 (blocks_tail r rs g) h t
]

blocks_right : (rs : List Read) (hs : List Hung) → AreBlocksOf rs hs → (h : Hung) → Contains hs h → h.least ≡ least_in (arranged_block h.block).vertices
blocks_right [] [] a h k = absurd (Contains-nil h k)
blocks_right [] (j ∷ hs) a h k = absurd a
blocks_right (r ∷ rs) [] a h k = absurd a
blocks_right (r ∷ rs) (j ∷ hs) a h k = elim (Contains-cons_cases j hs h k) [
  | inl e ↦ subst (λ (i : Hung). i.least ≡ least_in (arranged_block i.block).vertices) e a.0.least
  | inr t ↦ blocks_right rs hs a.1 h t
]

pub node_finished : (own : List ℕ) (rs : List Read) (hs ks : List Hung) (p : Placed) → IsPermutation hs ks → IsNonDecreasingBy key_of ks → vertices p.node ≡ own → blocks p.node ≡ map block_in ks →
    p.least ≡ lessers (least_in own) (map (λ (h : Hung). h.least) ks) → AreBlocksOf rs hs → IsNodeOf (node_read has own rs) p
node_finished own rs hs ks p moves sorted v bs l a =
    let x = p.node in
    let f : Hung → Arranged = λ h. arranged_block h.block in
    let right : (h : Hung) → Contains ks h → h.least ≡ least_in (f h).vertices = λ h k. blocks_right rs hs a h (Contains-permutation ks hs h (IsPermutation-sym hs ks moves) k) in
    let same : map f ks ≡ map arranged_block (blocks x) = sym (map_twice arranged_block block_in ks) ∙ ap (map arranged_block) (sym bs) in
    record {
      least = l ∙ lessers_are f (λ (h : Hung). h.least) own ks right
          ∙ ap (λ ls. least_in (own ++ all_vertices ls)) same
          ∙ ap (λ o. least_in (o ++ all_vertices (map arranged_block (blocks x)))) (sym v)
          ∙ sym (ap (λ (k : Arranged). least_in k.vertices) (arranged_out x));
      shows = λ good.
          let g : GoodBlocks rs = (record { cuts = λ c. good.normal.cuts (Contains-there _ _ nothing c); wide = good.normal.wide }, apart_tail own (lists_read rs) good.apart) in
          let shown : Each ShowsBlock rs (map block_in hs) = each_shows (λ (r : Read). IsGood r.part.cuts r) IsBlockOf ShowsBlock block_in GoodBlocks blocks_head blocks_tail (λ r h n. n.shows) rs hs a g in
          let moved : IsPermutation (map block_in hs) (blocks x) = subst (IsPermutation (map block_in hs)) (sym bs) (IsPermutation-map block_in hs ks moves) in
          let apart : AreApart (flat_map (λ (h : Hung). entered_block h.block) ks) = moved_apart hs ks moves (subst AreApart (flat_map-map entered_block block_in hs) (λ n. subst (λ m. m ≤ 1) (sym ((lists_together ShowsBlock entered_block (λ r b h. h.normal.lists) rs (map block_in hs) shown).often n)) (g.1 n))) in
          let up : ascend (map key_of ks) ≡ true = ascends f (λ (h : Hung). entered_block h.block) (λ h. block_covered h.block ∙ sym (block_listed h.block)) key_of ks sorted
          (λ h k. ap or_zero (right h k) ∙ zero_least (f h).vertices)
          (λ h k. blocks_some rs hs a g h (Contains-permutation ks hs h (IsPermutation-sym hs ks moves) k))
          apart in
          node_made own rs (map block_in hs) x v shown moved (ap (λ l. ascend (leasts l)) (sym same) ∙ ap ascend (sym (keys_are f (λ (h : Hung). h.least) ks right)) ∙ up);
    } where
      apart_tail : (l : List ℕ) (ls : List (List ℕ)) → AreApart (l ∷ ls) → AreApart ls
      apart_tail l ls c = apart_right (l ∷ []) ls c

      moved_apart : (hs ks : List Hung) → IsPermutation hs ks → AreApart (flat_map (λ (h : Hung). entered_block h.block) hs) → AreApart (flat_map (λ (h : Hung). entered_block h.block) ks)
      moved_apart hs ks m c n = subst (λ j. j ≤ 1) (sym (count_moved n (λ (h : Hung). entered_block h.block) hs ks m)) (c n)

-- ---- the children of a cycle
child_some : (r : Read) (x : Node) → IsGood (r.part.below ∷ r.part.cuts) r → ShowsChild r x → (arranged x).vertices ≡ [] → ⊥
child_some r x g s e =
    g.normal.cuts (subst (λ t. Contains (t ∷ r.part.cuts) nothing) (sym (ap has e) ∙ node_covered x ∙ s.normal.below) (Contains-here nothing r.part.cuts))

children_some : (rs : List Read) (ps : List Placed) → AreChildrenOf rs ps → GoodChildren rs → (p : Placed) → Contains ps p → (arranged p.node).vertices ≡ [] → ⊥
children_some [] [] a g p k = absurd (Contains-nil p k)
children_some [] (q ∷ ps) a g p k = absurd a
children_some (r ∷ rs) [] a g p k = absurd a
children_some (r ∷ rs) (q ∷ ps) a g p k = elim (Contains-cons_cases q ps p k) [
  | inl e ↦ subst (λ (i : Placed). (arranged i.node).vertices ≡ [] → ⊥) e (child_some r q.node (children_head r rs g) (a.0.shows (children_head r rs g)))
  | inr t ↦ children_some rs ps a.1 (children_tail r rs g) p t
]

children_right : (rs : List Read) (ps : List Placed) → AreChildrenOf rs ps → (p : Placed) → Contains ps p → p.least ≡ least_in (arranged p.node).vertices
children_right [] [] a p k = absurd (Contains-nil p k)
children_right [] (q ∷ ps) a p k = absurd a
children_right (r ∷ rs) [] a p k = absurd a
children_right (r ∷ rs) (q ∷ ps) a p k = elim (Contains-cons_cases q ps p k) [
  | inl e ↦ subst (λ (i : Placed). i.least ≡ least_in (arranged i.node).vertices) e a.0.least
  | inr t ↦ children_right rs ps a.1 p t
]

abbrev place_key : Placed → ℕ
place_key p = or_zero p.least

-- the children in some order: what their cycle shows
ring_made : (rs : List Read) (ps qs : List Placed) (nodes : Children) (h : Hung) → h.block ≡ Cycle nodes → nodes_in nodes ≡ map node_in qs → h.least ≡ lessers None (map (λ (p : Placed). p.least) qs) →
    (length rs ≡ 2 → ⊥) → AreChildrenOf rs ps → IsPermutation ps qs → SameSets (cycle_cuts (map part (map node_in qs))) (cycle_cuts (map part (map node_in ps))) →
    (GoodChildren rs → 2 ≤ length rs → rises (map place_key qs) ≡ true) → IsBlockOf (cycle_read rs) h
ring_made rs ps qs nodes h b ns l many a moves turn up =
    let f : Placed → Arranged = λ p. arranged p.node in
    let right : (p : Placed) → Contains qs p → p.least ≡ least_in (f p).vertices = λ p k. children_right rs ps a p (Contains-permutation qs ps p (IsPermutation-sym ps qs moves) k) in
    let same : map f qs ≡ map arranged (nodes_in nodes) = sym (map_twice arranged node_in qs) ∙ ap (map arranged) (sym ns) in
    record {
      least = l ∙ lessers_are f (λ (p : Placed). p.least) [] qs right ∙ ap (λ ls. least_in (all_vertices ls)) same
          ∙ sym (ap (λ (k : Arranged). least_in k.vertices) (ap arranged_block b ∙ arranged_cycle nodes));
      shows = λ good.
          let wide : 2 ≤ length rs = All-head (λ k. 2 ≤ k) (length rs) (counts_read rs) good.normal.wide in
          let g : GoodChildren rs = (record { cuts = good.normal.cuts; wide = All-tail (λ k. 2 ≤ k) (length rs) (counts_read rs) good.normal.wide }, good.apart) in
          let shown : Each ShowsChild rs (map node_in ps) = each_shows (λ (r : Read). IsGood (r.part.below ∷ r.part.cuts) r) IsChildOf ShowsChild node_in GoodChildren children_head children_tail (λ r p n. n.shows) rs ps a g in
          let moved : IsPermutation (map node_in ps) (nodes_in nodes) = subst (IsPermutation (map node_in ps)) (sym ns) (IsPermutation-map node_in ps qs moves) in
          subst (ShowsBlock (cycle_read rs)) (sym b)
          (cycle_made rs (map node_in ps) nodes shown (omega (arith, wide, many)) moved
          (subst (λ xs. SameSets (cycle_cuts (map part xs)) (cycle_cuts (map part (map node_in ps)))) (sym ns) turn)
          (ap (λ l. rises (leasts l)) (sym same) ∙ ap rises (sym (keys_are f (λ (p : Placed). p.least) qs right)) ∙ up g wide));
    }

-- the last of two or more children has not the least vertex of the first
ends_differ : (rs : List Read) (p : Placed) (ps : List Placed) → AreChildrenOf rs (p ∷ ps) → GoodChildren rs → 0 < length ps → place_key p ≡ place_key (last_of p ps) → ⊥
ends_differ rs p [] a g some e = absurd (omega (arith, some))
ends_differ rs p (q ∷ qs) a g some e =
    let all = p ∷ (q ∷ qs) in
    let z = last_of q qs in
    let inside : Contains (q ∷ qs) z = last_there q qs in
    let f : Placed → Arranged = λ (w : Placed). arranged w.node in
    let shown : Each ShowsChild rs (map node_in all) = each_shows (λ (r : Read). IsGood (r.part.below ∷ r.part.cuts) r) IsChildOf ShowsChild node_in GoodChildren children_head children_tail (λ r w n. n.shows) rs all a g in
    let apart : AreApart (flat_map (λ (w : Placed). entered w.node) all) = subst AreApart (flat_map-map entered node_in all) (λ n. subst (λ m. m ≤ 1) (sym ((lists_together ShowsChild entered (λ r x h. h.normal.lists) rs (map node_in all) shown).often n)) (g.1 n)) in
    let key : (w : Placed) → Contains all w → place_key w ≡ least (f w).vertices = λ w k. ap or_zero (children_right rs all a w k) ∙ zero_least (f w).vertices in
    differ f (λ (w : Placed). entered w.node) (λ w. node_covered w.node ∙ sym (node_listed w.node)) p (q ∷ qs) z apart
    (children_some rs all a g p (Contains-here p (q ∷ qs))) (children_some rs all a g z (Contains-there p (q ∷ qs) z inside)) inside
    (sym (key p (Contains-here p (q ∷ qs))) ∙ e ∙ key z (Contains-there p (q ∷ qs) z inside))

up_forth : (rs : List Read) (ps : List Placed) → ends_rise ps ≡ true → rises (map place_key ps) ≡ true
up_forth rs [] e = absurd (false≢true e)
up_forth rs (p ∷ ps) e = rises_forth place_key p ps e

up_back : (rs : List Read) (ps : List Placed) → AreChildrenOf rs ps → ends_rise ps ≡ false → GoodChildren rs → 2 ≤ length rs → rises (map place_key (top_first ps)) ≡ true
up_back rs [] a e g w = absurd (omega (arith, w, each_length IsChildOf rs [] a))
up_back rs (p ∷ ps) a e g w =
    let some : 0 < length ps = omega (arith, w, each_length IsChildOf rs (p ∷ ps) a) in
    let last = place_key (last_of p ps) in
    elim (cases_lt (place_key p) last) [
      | inl less ↦ absurd (false≢true (sym e ∙ lt-ltb (place_key p) last less))
      | inr more ↦ rises_back place_key p ps (omega (arith, more, ends_differ rs p ps a g some))
    ]

-- nodes as they may be in a cycle have the same ends
last_kept : (p : Placed) (ps : List Placed) → last_of (in_cycle p) (map in_cycle ps) ≡ in_cycle (last_of p ps)
last_kept p [] = refl
last_kept p (q ∷ qs) = last_kept q qs

ends_kept : (ps : List Placed) → ends_rise (map in_cycle ps) ≡ ends_rise ps
ends_kept [] = refl
ends_kept (p ∷ ps) = ap (λ (q : Placed). nat_lt (or_zero p.least) (or_zero q.least)) (last_kept p ps)

cond_map : {X Y : Type 0} (f : X → Y) (b : Bool) (xs ys : List X) → cond b (map f xs) (map f ys) ≡ map f (cond b xs ys)
cond_map f true xs ys = refl
cond_map f false xs ys = refl

faced_map : (ps : List Placed) → map in_cycle (faced ps) ≡ faced (map in_cycle ps)
faced_map ps =
    let qs = map in_cycle ps in
    sym (cond_map in_cycle (ends_rise ps) ps (top_first ps)) ∙ ap (cond (ends_rise ps) qs) (top_map in_cycle ps) ∙ ap (λ b. cond b qs (top_first qs)) (sym (ends_kept ps))

pub ring_finished : (rs : List Read) (ps : List Placed) (nodes : Children) (h : Hung) → h.block ≡ Cycle nodes → nodes_in nodes ≡ map node_in (faced ps) → h.least ≡ lessers None (map least_at (faced ps)) → (length rs ≡ 2 → ⊥) → AreChildrenOf rs ps →
    IsBlockOf (cycle_read rs) h
ring_finished rs ps nodes h b ns l many a = elim (cases_Bool (ends_rise ps)) [
  | inl rising ↦ (
      let order : faced ps ≡ ps = ap (λ k. cond k ps (top_first ps)) rising in
      ring_made rs ps ps nodes h b (ns ∙ ap (map node_in) order) (l ∙ ap (λ (qs : List Placed). lessers None (map least_at qs)) order) many a
      (IsPermutation-refl ps) (λ t. ((λ k. k), (λ k. k))) (λ g w. up_forth rs ps rising))
  | inr falling ↦ (
      let order : faced ps ≡ top_first ps = ap (λ k. cond k ps (top_first ps)) falling in
      ring_made rs ps (top_first ps) nodes h b (ns ∙ ap (map node_in) order) (l ∙ ap (λ (qs : List Placed). lessers None (map least_at qs)) order) many a
      (turned_moves ps)
      (subst (λ xs. SameSets (cycle_cuts xs) (cycle_cuts (map part (map node_in ps)))) (sym (ap (map part) (top_map node_in ps) ∙ top_map part (map node_in ps))) (cycle_turned (map part (map node_in ps))))
      (up_back rs ps a falling))
]

pub cycle_finished : (rs : List Read) (ps : List Placed) (nodes : Children) (h : Hung) → h.block ≡ Cycle nodes → nodes_in nodes ≡ map child_in (faced ps) → h.least ≡ lessers None (map least_at (faced ps)) → (length ps ≡ 2 → ⊥) → AreNodesOf rs ps →
    IsBlockOf (cycle_read rs) h
cycle_finished rs ps nodes h b ns l many a =
    ring_finished rs (map in_cycle ps) nodes h b (ns ∙ sym (map_twice node_in in_cycle (faced ps)) ∙ ap (map node_in) (faced_map ps))
    (l ∙ ap (lessers None) (sym (map_twice least_at in_cycle (faced ps)) ∙ ap (map least_at) (faced_map ps)))
    (λ e. many (omega (arith, e, each_length IsNodeOf rs ps a)))
    (each_map IsNodeOf IsChildOf in_cycle trimmed_shows rs ps a)

-- ---- one more of a row that is taken from its end
pub lessers_one : {X : Type 0} (g : X → Option ℕ) (old new : Option ℕ) (before after : List X) (x : X) (all : Option ℕ) → new ≡ lesser_of old (g x) → before ≡ x ∷ after → lessers old (map g before) ≡ all → lessers new (map g after) ≡ all
lessers_one g old new before after x all e b h =
    ap (λ o. lessers o (map g after)) e ∙ ap (λ l. lessers old (map g l)) (sym b) ∙ h

pub lessers_all : {X : Type 0} (g : X → Option ℕ) (o : Option ℕ) (row : List X) (all : Option ℕ) → row ≡ [] → lessers o (map g row) ≡ all → o ≡ all
lessers_all g o row all e h = ap (λ l. lessers o (map g l)) (sym e) ∙ h

-- ---- the ends of a list by their places
last_at : (p : Placed) (ps : List Placed) (e : Placed) → get_or (p ∷ ps) (length ps) e ≡ last_of p ps
last_at p [] e = refl
last_at p (q ∷ qs) e =
    let many : length (q ∷ qs) ≡ suc (length qs) = omega arith in
    ap (λ k. get_or (p ∷ (q ∷ qs)) k e) many ∙ last_at q qs e

last_push : (p : Placed) (ps : List Placed) (q : Placed) → last_of p (ps ++ q ∷ []) ≡ q
last_push p [] q = refl
last_push p (r ∷ ps) q = last_push r ps q

turned_ends : (p : Placed) (ps : List Placed) → (qs : List Placed) × (top_first (p ∷ ps) ≡ last_of p ps ∷ qs) × (last_of (last_of p ps) qs ≡ p)
turned_ends p [] = ([], refl, refl)
turned_ends p (q ∷ ps) =
    let t = turned_ends q ps in
    (t.0 ++ p ∷ [], ap (λ l. l ++ p ∷ []) t.1, last_push (last_of q ps) t.0 p)

-- of nodes that are listed with the last first
pub ends_at : (ps : List Placed) (d e : Placed) (a b k : ℕ) → 0 < length ps → k ≡ length ps - 1 → a ≡ or_zero (get_or ps k d).least → b ≡ or_zero (get_or ps 0 e).least → nat_lt a b ≡ ends_rise (top_first ps)
ends_at [] d e a b k some at first last = absurd (omega (arith, some))
ends_at (p ∷ ps) d e a b k some at first last =
    let place : k ≡ length ps = omega (arith, at) in
    let t = turned_ends p ps in
    let z = last_of p ps in
    let start : a ≡ or_zero z.least = first ∙ ap (λ i. or_zero (get_or (p ∷ ps) i d).least) place ∙ ap (λ (q : Placed). or_zero q.least) (last_at p ps d) in
    let end : b ≡ or_zero (last_of z t.0).least = last ∙ ap (λ (q : Placed). or_zero q.least) (sym t.2) in
    ap (λ i. nat_lt i b) start ∙ ap (nat_lt (or_zero z.least)) end ∙ ap ends_rise (sym t.1)
