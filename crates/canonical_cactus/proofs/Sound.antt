-- The cuts of each node and each block of a canonical cactus: nonempty, within it, and apart from those beside it.
use Rattle.std.proofs.Common.{◌≡◌, ℕ, ◌≤◌, ◌⊎◌, inl, inr, true, false, ◌||◌, List, [], ◌∷◌, length, map, ap, ◌∙◌, sym, subst, arith, append-nil}
use Rattle.std.specs.List.{flat_map, Contains, AllByRecursion}
use Rattle.std.specs.declared.boxed.Box.{Box}
use Rattle.std.specs.declared.alloc.Global.{Global}
use Rattle.std.proofs.lemmas.Bool.{or_left, or_right, or_from, false_from_ne_true, false≢true}
use Rattle.std.proofs.lemmas.List.{length-map}
use Rattle.cut_definitions.specs.Weight.{VertexSet, either}
use Rattle.cut_definitions.specs.Cuts.{has}
use Rattle.cut_definitions.proofs.Lists.{Contains-here, Contains-there, Contains-cons_cases}
use Rattle.rooted_cactus.specs.Sides.{Part, part, block_part, all_of, belows, all_cuts, bridge_of, cycle_of}
use Rattle.rooted_cactus.specs.Entered.{entered, entered_block}
use Rattle.rooted_cactus.specs.Trees.{vertices, blocks, nodes_in}
use Rattle.rooted_cactus.specs.declared.tree.Node.{Node}
use Rattle.rooted_cactus.specs.declared.tree.Block.{Block}
use Rattle.rooted_cactus.specs.declared.tree.Children.{Children}
use Rattle.rooted_cactus.specs.declared.tree.Block.TheVariants.{Bridge, Cycle}
use Rattle.rooted_cactus.proofs.Parts.{part_out, bridge_part, cycle_part, either_nothing}
use Rattle.rooted_cactus.proofs.Induction.{tree_induction}
use Rattle.rooted_cactus.proofs.Sets.{IsIn, HasOne, Apart, SameFamily}
use Rattle.rooted_cactus.proofs.Rows.{IsSound, IsRow, HaveOwn, row_within, row_nonempty, one_left_out}
use Rattle.rooted_cactus.proofs.Cycles.{cycle_cuts, cycle_within, cycle_nonempty, cycle_whole}
use Rattle.canonical_cactus.proofs.Turns.{IsTorn, cycle_torn}
use Rattle.rooted_cactus.proofs.Views.{block_induction, each}
use Rattle.rooted_cactus.proofs.Clean.{clean_apart}
use Rattle.rooted_cactus.proofs.Trims.{cuts_out, below_out}
use Rattle.rooted_cactus.proofs.Fits.{IsSolid, IsPlaced, nodes_placed, own_apart}
use Rattle.rooted_cactus.proofs.Distinct.{placed_one}
use Rattle.rooted_cactus.proofs.Covered.{node_listed, block_listed, blocks_listed, nodes_listed}
use Rattle.canonical_cactus.proofs.Fits.{IsFit, IsFitBlock, AreFitBlocks, AreFitNodes, blocks_head, blocks_tail, nodes_head, nodes_tail, node_blocks, bridge_child, cycle_children}

-- ---- the induction
module _ (n : ℕ) where
  abbrev NodeSound : Node → Type 0
  NodeSound x = IsFit n x → IsSound (part x) × IsRow (map block_part (blocks x)) × HaveOwn (map block_part (blocks x))

  abbrev IsWhole : Part → Type 0
  IsWhole p = IsSound p × HasOne p.below × Contains p.cuts p.below

  abbrev BlockSound : Block → Type 0
  BlockSound b = IsFitBlock n b → IsWhole (block_part b)

  row_of_blocks : (bs : List Block) → AllByRecursion BlockSound bs → AreFitBlocks n bs → IsRow (map block_part bs) × HaveOwn (map block_part bs)
  row_of_blocks [] h f = (tt, tt)
  row_of_blocks (b ∷ bs) h f =
      let s = h.0 (blocks_head n b bs f) in
      let r = row_of_blocks bs h.1 (blocks_tail n b bs f) in
      let apart : Apart (block_part b).below (all_of (belows (map block_part bs))) = λ v here there.
      clean_apart n (entered_block b) (flat_map entered_block bs) f.normal.clean v
      (ap (λ (t : VertexSet). t v) (block_listed b) ∙ here) (ap (λ (t : VertexSet). t v) (blocks_listed bs) ∙ there) in
      ((s.0, s.1, apart, r.0), (s.2, r.1))

  row_of_nodes : (xs : List Node) → AllByRecursion NodeSound xs → AreFitNodes n xs → IsRow (map part xs)
  row_of_nodes [] h f = tt
  row_of_nodes (x ∷ xs) h f =
      let s = h.0 (nodes_head n x xs f) in
      let apart : Apart (part x).below (all_of (belows (map part xs))) = λ v here there.
      clean_apart n (entered x) (flat_map entered xs) f.normal.clean v
      (ap (λ (t : VertexSet). t v) (node_listed x) ∙ here) (ap (λ (t : VertexSet). t v) (nodes_listed xs) ∙ there) in
      (s.0, placed_one x (nodes_placed n x xs f.normal) s.1, apart, row_of_nodes xs h.1 (nodes_tail n x xs f))

  node_case : (x : Node) → AllByRecursion BlockSound (blocks x) → NodeSound x
  node_case x h f =
      let ps = map block_part (blocks x) in
      let r = row_of_blocks (blocks x) h (node_blocks n x f) in
      let here : IsSound (let p : Part = record { below = either (has (vertices x)) (all_of (belows ps)); cuts = all_cuts ps } in p) = record {
        within = λ s c v e. or_right (has (vertices x) v) (all_of (belows ps) v) (row_within ps r.0 s c v e);
        nonempty = λ s c. row_nonempty ps r.0 s c;
      } in
      (subst IsSound (sym (part_out x)) here, r.0, r.1)

  bridge_case : (child : Box Node Global) → NodeSound child.value → BlockSound (Bridge child)
  bridge_case child h f =
      let x = child.value in
      let p = part x in
      let g = bridge_child n child f in
      let s = h g.0 in
      let one : HasOne p.below = placed_one x (inl g.1) s.1 in
      let here : IsWhole (bridge_of p) = (
        record {
          within = λ t c. elim (Contains-cons_cases p.below p.cuts t c) [ inl e ↦ subst (λ y. IsIn y p.below) e (λ v k. k) | inr k ↦ s.0.within t k ];
          nonempty = λ t c. elim (Contains-cons_cases p.below p.cuts t c) [ inl e ↦ subst (λ y. HasOne y) e one | inr k ↦ s.0.nonempty t k ];
        },
        one,
        Contains-here p.below p.cuts,
      ) in
      subst IsWhole (sym (bridge_part child)) here

  whole_of : (xs : List Node) → 3 ≤ length xs → IsRow (map part xs) → HasOne (all_of (belows (map part xs))) × Contains (cycle_cuts (map part xs)) (all_of (belows (map part xs)))
  whole_of [] k r = absurd (omega (arith, k))
  whole_of (x ∷ xs) k r = ((r.1.0, or_left ((part x).below r.1.0) (all_of (belows (map part xs)) r.1.0) r.1.1), cycle_whole (part x) (map part xs))

  cycle_case : (nodes : Children) → AllByRecursion NodeSound (nodes_in nodes) → BlockSound (Cycle nodes)
  cycle_case nodes h f =
      let xs = nodes_in nodes in
      let ps = map part xs in
      let g = cycle_children n nodes f in
      let r = row_of_nodes xs h g.0 in
      let w = whole_of xs g.1 r in
      let here : IsWhole (cycle_of ps) = (record { within = cycle_within ps r; nonempty = cycle_nonempty ps r }, w.0, w.1) in
      subst IsWhole (sym (cycle_part nodes)) here

  pub node_sound : (x : Node) → IsFit n x → IsSound (part x) × IsRow (map block_part (blocks x)) × HaveOwn (map block_part (blocks x))
  node_sound = tree_induction NodeSound BlockSound node_case bridge_case cycle_case

  pub block_sound : (b : Block) → IsFitBlock n b → IsSound (block_part b) × HasOne (block_part b).below × Contains (block_part b).cuts (block_part b).below
  block_sound = block_induction NodeSound BlockSound node_case bridge_case cycle_case

pub nodes_row : (n : ℕ) (xs : List Node) → AreFitNodes n xs → IsRow (map part xs)
nodes_row n xs f = row_of_nodes n xs (each (NodeSound n) (node_sound n) xs) f

pub blocks_row : (n : ℕ) (bs : List Block) → AreFitBlocks n bs → IsRow (map block_part bs) × HaveOwn (map block_part bs)
blocks_row n bs f = row_of_blocks n bs (each (BlockSound n) (block_sound n) bs) f

-- ---- two kinds of nodes
-- two cuts that share a vertex leave one out
abbrev pub LeavesOut : Part → Type 0
LeavesOut p = (s t : VertexSet) → Contains p.cuts s → Contains p.cuts t → (w : ℕ) → s w ≡ true → t w ≡ true → (u : ℕ) × (p.below u ≡ true) × (s u ≡ false) × (t u ≡ false)

abbrev pub HasKind : Part → Type 0
HasKind p = LeavesOut p ⊎ (IsTorn p.below p.cuts × Contains p.cuts p.below)

pub solid_leaves_out : (n : ℕ) (x : Node) → IsFit n x → IsSolid x → LeavesOut (part x)
solid_leaves_out n x f solid s t cs ct w sw tw =
    let ps = map block_part (blocks x) in
    let r : IsRow ps = (node_sound n x f).1 in
    let at : (v : ℕ) → (part x).below v ≡ has (vertices x) v || all_of (belows ps) v = λ v. ap (λ (y : VertexSet). y v) (below_out x) in
    let hs : Contains (all_cuts ps) s = subst (λ l. Contains l s) (cuts_out x) cs in
    let ht : Contains (all_cuts ps) t = subst (λ l. Contains l t) (cuts_out x) ct in
    elim solid [
      | inl o ↦ (
        o.0,
        at o.0 ∙ or_left (has (vertices x) o.0) (all_of (belows ps) o.0) o.1,
        false_from_ne_true (s o.0) (λ e. own_apart n x f.normal o.0 o.1 (row_within ps r s hs o.0 e)),
        false_from_ne_true (t o.0) (λ e. own_apart n x f.normal o.0 o.1 (row_within ps r t ht o.0 e)),
      )
      | inr k ↦ (
          let u = one_left_out ps r (omega (arith, k, length-map (blocks x) block_part)) s t hs ht w sw tw in
          (u.0, at u.0 ∙ or_right (has (vertices x) u.0) (all_of (belows ps) u.0) u.1, u.2, u.3))
    ]

torn_of : (xs : List Node) → 3 ≤ length xs → IsRow (map part xs) → IsTorn (all_of (belows (map part xs))) (cycle_cuts (map part xs))
torn_of [] k r = absurd (omega (arith, k))
torn_of (x ∷ []) k r = absurd (omega (arith, k))
torn_of (x ∷ (y ∷ [])) k r = absurd (omega (arith, k))
torn_of (x ∷ (y ∷ (z ∷ zs))) k r = cycle_torn (part x) (part y) (part z) (map part zs) r

pub cycle_is_torn : (n : ℕ) (nodes : Children) → IsFitBlock n (Cycle nodes) → IsTorn (block_part (Cycle nodes)).below (block_part (Cycle nodes)).cuts
cycle_is_torn n nodes f =
    let g = cycle_children n nodes f in
    subst (λ p. IsTorn p.below p.cuts) (sym (cycle_part nodes)) (torn_of (nodes_in nodes) g.1 (nodes_row n (nodes_in nodes) g.0))

pub placed_kind : (n : ℕ) (x : Node) → IsFit n x → IsPlaced x → HasKind (part x)
placed_kind n x f p = elim p [
  | inl s ↦ inl (solid_leaves_out n x f s)
  | inr c ↦ (
      let b = Cycle c.0 in
      let fit : IsFitBlock n b = blocks_head n b [] (subst (AreFitBlocks n) c.1 (node_blocks n x f)) in
      let below : (part x).below ≡ (block_part b).below =
      below_out x ∙ ap (λ l. either (has l) (all_of (belows (map block_part (blocks x))))) c.2 ∙ ap (λ bs. all_of (belows (map block_part bs))) c.1 ∙ either_nothing (block_part b).below in
      let cuts : (part x).cuts ≡ (block_part b).cuts = cuts_out x ∙ ap (λ bs. all_cuts (map block_part bs)) c.1 ∙ append-nil (block_part b).cuts in
      let torn : IsTorn (part x).below (part x).cuts = subst (λ t. IsTorn t (part x).cuts) (sym below) (subst (λ l. IsTorn (block_part b).below l) (sym cuts) (cycle_is_torn n c.0 fit)) in
      let own : Contains (part x).cuts (part x).below = subst (λ t. Contains (part x).cuts t) (sym below) (subst (λ l. Contains l (block_part b).below) (sym cuts) (block_sound n b fit).2) in
      inr (torn, own))
]

-- ---- the cuts of a node without the one of all that is below it
pub torn_or_whole : (p q : Part) → LeavesOut q → IsTorn p.below p.cuts → p.below ≡ q.below → ((s : VertexSet) → Contains p.cuts s → Contains (q.below ∷ q.cuts) s) → ⊥
torn_or_whole p q leaves t e f =
    let at : (v : ℕ) → p.below v ≡ q.below v = λ v. ap (λ (y : VertexSet). y v) e in
    let one : Contains q.cuts t.one = elim (Contains-cons_cases q.below q.cuts t.one (f t.one t.one_cut)) [
      | inl k ↦ absurd (t.not_one (sym (ap (λ (y : VertexSet). y t.outside_one) k) ∙ sym (at t.outside_one) ∙ t.below_one))
      | inr k ↦ k
    ] in
    let other : Contains q.cuts t.other = elim (Contains-cons_cases q.below q.cuts t.other (f t.other t.other_cut)) [
      | inl k ↦ absurd (t.not_other (sym (ap (λ (y : VertexSet). y t.outside_other) k) ∙ sym (at t.outside_other) ∙ t.below_other))
      | inr k ↦ k
    ] in
    let u = leaves t.one t.other one other t.shared t.in_one t.in_other in
    false≢true (sym (or_from (t.one u.0) (t.other u.0) u.2 u.3) ∙ t.whole u.0 (at u.0 ∙ u.1))

one_way : (p q : Part) → HasKind p → HasKind q → HasOne p.below → p.below ≡ q.below → ((s : VertexSet) → Contains (p.below ∷ p.cuts) s → Contains (q.below ∷ q.cuts) s) →
    (s : VertexSet) → Contains p.cuts s → Contains q.cuts s
one_way p q kp kq one e f s c = elim (Contains-cons_cases q.below q.cuts s (f s (Contains-there p.below p.cuts s c))) [
  | inr h ↦ h
  | inl k ↦ elim kq [
    | inr t ↦ subst (λ y. Contains q.cuts y) k t.1
    | inl leaves ↦ elim kp [
      | inr t ↦ absurd (torn_or_whole p q leaves t.0 e (λ y h. f y (Contains-there p.below p.cuts y h)))
      | inl leaves_p ↦ (
          let same : p.below ≡ s = e ∙ k in
          let at : (v : ℕ) → p.below v ≡ s v = λ v. ap (λ (y : VertexSet). y v) same in
          let u = leaves_p s s c c one.0 (sym (at one.0) ∙ one.1) (sym (at one.0) ∙ one.1) in
          absurd (false≢true (sym u.2 ∙ sym (at u.0) ∙ u.1)))
    ]
  ]
]

pub same_cuts : (p q : Part) → HasKind p → HasKind q → HasOne p.below → HasOne q.below → p.below ≡ q.below → SameFamily (p.below ∷ p.cuts) (q.below ∷ q.cuts) → SameFamily p.cuts q.cuts
same_cuts p q kp kq op oq e f s = (one_way p q kp kq op e (λ t. (f t).0) s, one_way q p kq kp oq (sym e) (λ t. (f t).1) s)
