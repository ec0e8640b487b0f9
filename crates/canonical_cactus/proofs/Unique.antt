-- Canonical trees with the same cuts are read alike by every fold.
use Rattle.std.proofs.Common.{◌≡◌, ℕ, ◌≤◌, inl, inr, true, List, [], ◌∷◌, length, map, ap, ◌∙◌, sym, refl, subst, arith}
use Rattle.std.specs.Prelude.{nat_lt}
use Rattle.std.specs.List.{list_all, Contains, AllByRecursion}
use Rattle.std.specs.declared.boxed.Box.{Box}
use Rattle.std.specs.declared.alloc.Global.{Global}
use Rattle.std.proofs.lemmas.Bool.{or_cases, or_left, and_parts, ltb-true, false≢true}
use Rattle.std.proofs.lemmas.List.Elements.{Contains-append_left}
use Rattle.cut_definitions.specs.Weight.{VertexSet, either}
use Rattle.cut_definitions.specs.Cuts.{has, least}
use Rattle.cut_definitions.proofs.Bridge.{same_ascending}
use Rattle.cut_definitions.proofs.Lists.{Contains-nil}
use Rattle.cut_definitions.proofs.Bools.{same_tests}
use Rattle.rooted_cactus.specs.Sides.{Part, part, block_part, all_of, belows, all_cuts}
use Rattle.rooted_cactus.specs.Trees.{vertices, blocks, nodes_in}
use Rattle.rooted_cactus.specs.declared.tree.Node.{Node}
use Rattle.rooted_cactus.specs.declared.tree.Block.{Block}
use Rattle.rooted_cactus.specs.declared.tree.Children.{Children}
use Rattle.rooted_cactus.specs.declared.tree.Block.TheVariants.{Bridge, Cycle}
use Rattle.rooted_cactus.proofs.Parts.{bridge_part, cycle_part}
use Rattle.rooted_cactus.proofs.Induction.{tree_induction}
use Rattle.canonical_cactus.specs.Canonical.{arranged, arranged_block, leasts, ascend, rises, last_from}
use Rattle.rooted_cactus.proofs.Sets.{IsIn, IsLeast, SameFamily}
use Rattle.rooted_cactus.proofs.Rows.{row_within, in_some_cut, row_head}
use Rattle.rooted_cactus.proofs.Cycles.{cycle_cuts, cycle_head}
use Rattle.canonical_cactus.proofs.ChildOrder.{cycle_order}
use Rattle.canonical_cactus.proofs.Turns.{last_part, first_same}
use Rattle.rooted_cactus.proofs.Views.{view}
use Rattle.rooted_cactus.proofs.Clean.{least_is}
use Rattle.rooted_cactus.proofs.Trims.{below_out, cuts_out}
use Rattle.canonical_cactus.proofs.Arrangement.{node_covered, block_covered}
use Rattle.rooted_cactus.proofs.Fits.{IsPlaced, nodes_placed, own_apart}
use Rattle.rooted_cactus.proofs.Distinct.{placed_one}
use Rattle.canonical_cactus.proofs.Fits.{IsFit, IsFitBlock, AreFitBlocks, AreFitNodes, blocks_head, blocks_tail, nodes_head, nodes_tail, node_blocks, own_ascending, bridge_child, cycle_children}
use Rattle.canonical_cactus.proofs.Sound.{node_sound, block_sound, nodes_row, blocks_row, placed_kind, same_cuts, solid_leaves_out, cycle_is_torn, torn_or_whole}

at_of : (s t : VertexSet) → s ≡ t → (v : ℕ) → s v ≡ t v
at_of s t e v = ap (λ (y : VertexSet). y v) e

heads : {X : Type 0} (x y : X) (xs ys : List X) → (x ∷ xs) ≡ (y ∷ ys) → x ≡ y
heads x y xs ys e = ap (λ l. head_or l x) e
  where
    head_or : {X : Type 0} → List X → X → X
    head_or [] d = d
    head_or (z ∷ zs) d = z

tails : {X : Type 0} (x y : X) (xs ys : List X) → (x ∷ xs) ≡ (y ∷ ys) → xs ≡ ys
tails x y xs ys e = ap tail_of e
  where
    tail_of : {X : Type 0} → List X → List X
    tail_of [] = []
    tail_of (z ∷ zs) = zs

-- ---- least vertices
block_least : (n : ℕ) (b : Block) → IsFitBlock n b → IsLeast (block_part b).below (least (arranged_block b).vertices)
block_least n b f = least_is (block_part b).below (arranged_block b).vertices (block_covered b) (block_sound n b f).1

node_least : (n : ℕ) (x : Node) → IsFit n x → IsPlaced x → IsLeast (part x).below (least (arranged x).vertices)
node_least n x f p = least_is (part x).below (arranged x).vertices (node_covered x) (placed_one x p (node_sound n x f).1)

later_least : (n u : ℕ) (bs : List Block) → AreFitBlocks n bs → list_all (nat_lt u) (leasts (map arranged_block bs)) ≡ true → (w : ℕ) → all_of (belows (map block_part bs)) w ≡ true → u ≤ w
later_least n u [] f h w e = absurd (false≢true e)
later_least n u (b ∷ bs) f h w e =
    let both = and_parts (nat_lt u (least (arranged_block b).vertices)) (list_all (nat_lt u) (leasts (map arranged_block bs))) h in
    elim (or_cases ((block_part b).below w) (all_of (belows (map block_part bs)) w) e) [
      | inl k ↦ omega (arith, ltb-true u (least (arranged_block b).vertices) both.0, (block_least n b (blocks_head n b bs f)).1 w k)
      | inr k ↦ later_least n u bs (blocks_tail n b bs f) both.1 w k
    ]

-- the first block has the least vertex of all
first_least : (n : ℕ) (b : Block) (bs : List Block) → AreFitBlocks n (b ∷ bs) → (w : ℕ) → all_of (belows (map block_part (b ∷ bs))) w ≡ true → least (arranged_block b).vertices ≤ w
first_least n b bs f w e =
    let u = least (arranged_block b).vertices in
    elim (or_cases ((block_part b).below w) (all_of (belows (map block_part bs)) w) e) [
      | inl k ↦ (block_least n b (blocks_head n b bs f)).1 w k
      | inr k ↦ later_least n u bs (blocks_tail n b bs f) (and_parts (list_all (nat_lt u) (leasts (map arranged_block bs))) (ascend (leasts (map arranged_block bs))) f.ascending).0 w k
    ]

last_least : (n : ℕ) (x : Node) (xs : List Node) → AreFitNodes n (x ∷ xs) → IsLeast (last_part (part x) (map part xs)).below (last_from (least (arranged x).vertices) (leasts (map arranged xs)))
last_least n x [] f = node_least n x (nodes_head n x [] f) (nodes_placed n x [] f.normal)
last_least n x (y ∷ ys) f = last_least n y ys (nodes_tail n x (y ∷ ys) f)

-- ---- any fold over trees
module _ (n : ℕ) (A B : Type 0) (F : Node → A) (G : Block → B) (node_of : List ℕ → List B → A) (bridge_of : A → B) (cycle_of : List A → B)
    (node_is : (x : Node) → F x ≡ node_of (vertices x) (map G (blocks x)))
    (bridge_is : (child : Box Node Global) → G (Bridge child) ≡ bridge_of (F child.value))
    (cycle_is : (nodes : Children) → G (Cycle nodes) ≡ cycle_of (map F (nodes_in nodes))) where
  abbrev NodeSame : Node → Type 0
  NodeSame x = (y : Node) → IsFit n x → IsFit n y → IsPlaced x → IsPlaced y → (part x).below ≡ (part y).below →
      SameFamily ((part x).below ∷ (part x).cuts) ((part y).below ∷ (part y).cuts) → F x ≡ F y

  abbrev BlockSame : Block → Type 0
  BlockSame b = (d : Block) → IsFitBlock n b → IsFitBlock n d → (block_part b).below ≡ (block_part d).below → SameFamily (block_part b).cuts (block_part d).cuts → G b ≡ G d

  -- ---- the blocks of a node
  no_blocks : (d : Block) (ds : List Block) → AreFitBlocks n (d ∷ ds) → ((s : VertexSet) → Contains (all_cuts (map block_part (d ∷ ds))) s → Contains [] s) → ⊥
  no_blocks d ds f h =
      let p = block_part d in
      Contains-nil p.below (h p.below (Contains-append_left p.cuts (all_cuts (map block_part ds)) p.below (block_sound n d (blocks_head n d ds f)).2))

  blocks_same : (bs ds : List Block) → AllByRecursion BlockSame bs → AreFitBlocks n bs → AreFitBlocks n ds →
      SameFamily (all_cuts (map block_part bs)) (all_cuts (map block_part ds)) →
      (map G bs ≡ map G ds) × (all_of (belows (map block_part bs)) ≡ all_of (belows (map block_part ds)))
  blocks_same [] [] h fb fd s = (refl, refl)
  blocks_same [] (d ∷ ds) h fb fd s = absurd (no_blocks d ds fd (λ t. (s t).1))
  blocks_same (b ∷ bs) [] h fb fd s = absurd (no_blocks b bs fb (λ t. (s t).0))
  blocks_same (b ∷ bs) (d ∷ ds) h fb fd s =
      let p = block_part b in
      let q = block_part d in
      let ps = map block_part bs in
      let qs = map block_part ds in
      let rb = blocks_row n (b ∷ bs) fb in
      let rd = blocks_row n (d ∷ ds) fd in
      let u = least (arranged_block b).vertices in
      let v = least (arranged_block d).vertices in
      let hb : IsFitBlock n b = blocks_head n b bs fb in
      let hd : IsFitBlock n d = blocks_head n d ds fd in
      let lb : IsLeast p.below u = block_least n b hb in
      let ld : IsLeast q.below v = block_least n d hd in
      let cu = in_some_cut (p ∷ ps) rb.1 u (or_left (p.below u) (all_of (belows ps) u) lb.0) in
      let cv = in_some_cut (q ∷ qs) rd.1 v (or_left (q.below v) (all_of (belows qs) v) ld.0) in
      let vu : v ≤ u = first_least n d ds fd u (row_within (q ∷ qs) rd.0 cu.0 ((s cu.0).0 cu.1) u cu.2) in
      let uv : u ≤ v = first_least n b bs fb v (row_within (p ∷ ps) rb.0 cv.0 ((s cv.0).1 cv.1) v cv.2) in
      let same : u ≡ v = omega (arith, vu, uv) in
      let shared : q.below u ≡ true = ap q.below same ∙ ld.0 in
      let r = row_head p q ps qs rb.0 rd.0 rb.1.0 rd.1.0 u lb.0 shared s in
      let first : G b ≡ G d = h.0 d hb hd r.0 r.1 in
      let rest = blocks_same bs ds h.1 (blocks_tail n b bs fb) (blocks_tail n d ds fd) r.2 in (
        ap (λ g. g ∷ map G bs) first ∙ ap (λ l. G d ∷ l) rest.0,
        ap (λ t. either t (all_of (belows ps))) r.0 ∙ ap (λ t. either q.below t) rest.1,
      )

  own_in : (x y : Node) → IsFit n x → (part x).below ≡ (part y).below → all_of (belows (map block_part (blocks x))) ≡ all_of (belows (map block_part (blocks y))) → IsIn (has (vertices x)) (has (vertices y))
  own_in x y fx e a v h =
      let bx : VertexSet = all_of (belows (map block_part (blocks x))) in
      let by : VertexSet = all_of (belows (map block_part (blocks y))) in
      let there : (part x).below v ≡ true = at_of (part x).below (either (has (vertices x)) bx) (below_out x) v ∙ or_left (has (vertices x) v) (bx v) h in
      elim (or_cases (has (vertices y) v) (by v) (sym (at_of (part y).below (either (has (vertices y)) by) (below_out y) v) ∙ sym (at_of (part x).below (part y).below e v) ∙ there)) [
        | inl k ↦ k
        | inr k ↦ absurd (own_apart n x fx.normal v h (at_of bx by a v ∙ k))
      ]

  node_case : (x : Node) → AllByRecursion BlockSame (blocks x) → NodeSame x
  node_case x h y fx fy px py e s =
      let cuts : SameFamily (part x).cuts (part y).cuts =
      same_cuts (part x) (part y) (placed_kind n x fx px) (placed_kind n y fy py) (placed_one x px (node_sound n x fx).1) (placed_one y py (node_sound n y fy).1) e s in
      let listed : SameFamily (all_cuts (map block_part (blocks x))) (all_cuts (map block_part (blocks y))) =
      subst (λ l. SameFamily l (all_cuts (map block_part (blocks y)))) (cuts_out x) (subst (λ l. SameFamily (part x).cuts l) (cuts_out y) cuts) in
      let r = blocks_same (blocks x) (blocks y) h (node_blocks n x fx) (node_blocks n y fy) listed in
      let own : vertices x ≡ vertices y = same_ascending 1 n (vertices x) (vertices y) (own_ascending n x fx) (own_ascending n y fy)
      (λ v low high. same_tests (has (vertices x) v) (has (vertices y) v) (own_in x y fx e r.1 v) (own_in y x fy (sym e) (sym r.1) v)) in
      node_is x ∙ ap (λ l. node_of l (map G (blocks x))) own ∙ ap (node_of (vertices y)) r.0 ∙ sym (node_is y)

  -- ---- a bridge
  bridge_bridge : (c d : Box Node Global) → NodeSame c.value → IsFitBlock n (Bridge c) → IsFitBlock n (Bridge d) →
      (block_part (Bridge c)).below ≡ (block_part (Bridge d)).below → SameFamily (block_part (Bridge c)).cuts (block_part (Bridge d)).cuts → G (Bridge c) ≡ G (Bridge d)
  bridge_bridge c d h fc fd e s =
      let gc = bridge_child n c fc in
      let gd = bridge_child n d fd in
      let below : (part c.value).below ≡ (part d.value).below = sym (ap (λ (p : Part). p.below) (bridge_part c)) ∙ e ∙ ap (λ (p : Part). p.below) (bridge_part d) in
      let cuts : SameFamily ((part c.value).below ∷ (part c.value).cuts) ((part d.value).below ∷ (part d.value).cuts) =
      subst (λ (p : Part). SameFamily p.cuts ((part d.value).below ∷ (part d.value).cuts)) (bridge_part c) (subst (λ (p : Part). SameFamily (block_part (Bridge c)).cuts p.cuts) (bridge_part d) s) in
      bridge_is c ∙ ap bridge_of (h d.value gc.0 gd.0 (inl gc.1) (inl gd.1) below cuts) ∙ sym (bridge_is d)

  bridge_cycle : (c : Box Node Global) (nodes : Children) → IsFitBlock n (Bridge c) → IsFitBlock n (Cycle nodes) →
      (block_part (Cycle nodes)).below ≡ (block_part (Bridge c)).below → ((s : VertexSet) → Contains (block_part (Cycle nodes)).cuts s → Contains (block_part (Bridge c)).cuts s) → ⊥
  bridge_cycle c nodes fc fd e f =
      let g = bridge_child n c fc in
      let below : (block_part (Cycle nodes)).below ≡ (part c.value).below = e ∙ ap (λ (p : Part). p.below) (bridge_part c) in
      torn_or_whole (block_part (Cycle nodes)) (part c.value) (solid_leaves_out n c.value g.0 g.1) (cycle_is_torn n nodes fd) below
      (λ s k. subst (λ (p : Part). Contains p.cuts s) (bridge_part c) (f s k))

  bridge_case : (child : Box Node Global) → NodeSame child.value → BlockSame (Bridge child)
  bridge_case c h d fb fd e s = elim (view d) [
    | inl y ↦ subst (λ z. G (Bridge c) ≡ G z) (sym y.1)
        (bridge_bridge c y.0 h fb (subst (IsFitBlock n) y.1 fd) (subst (λ z. (block_part (Bridge c)).below ≡ (block_part z).below) y.1 e) (subst (λ z. SameFamily (block_part (Bridge c)).cuts (block_part z).cuts) y.1 s))
    | inr y ↦ absurd (bridge_cycle c y.0 fb (subst (IsFitBlock n) y.1 fd) (sym (subst (λ z. (block_part (Bridge c)).below ≡ (block_part z).below) y.1 e))
        (λ t. (subst (λ z. SameFamily (block_part (Bridge c)).cuts (block_part z).cuts) y.1 s t).1))
  ]

  -- ---- a cycle
  nodes_same : (xs ys : List Node) → AllByRecursion NodeSame xs → AreFitNodes n xs → AreFitNodes n ys → belows (map part xs) ≡ belows (map part ys) →
      SameFamily (cycle_cuts (map part xs)) (cycle_cuts (map part ys)) → map F xs ≡ map F ys
  nodes_same [] [] h fx fy e s = refl
  nodes_same [] (y ∷ ys) h fx fy e s = absurd (differ (part y).below (belows (map part ys)) e)
    where
      differ : (b : VertexSet) (bs : List VertexSet) → [] ≡ (b ∷ bs) → ⊥
      differ b bs e = cc
  nodes_same (x ∷ xs) [] h fx fy e s = absurd (differ (part x).below (belows (map part xs)) e)
    where
      differ : (b : VertexSet) (bs : List VertexSet) → (b ∷ bs) ≡ [] → ⊥
      differ b bs e = cc
  nodes_same (x ∷ xs) (y ∷ ys) h fx fy e s =
      let first : (part x).below ≡ (part y).below = heads (part x).below (part y).below (belows (map part xs)) (belows (map part ys)) e in
      let rest : belows (map part xs) ≡ belows (map part ys) = tails (part x).below (part y).below (belows (map part xs)) (belows (map part ys)) e in
      let r = cycle_head (part x) (part y) (map part xs) (map part ys) (nodes_row n (x ∷ xs) fx) (nodes_row n (y ∷ ys) fy) first s in
      let here : F x ≡ F y = h.0 y (nodes_head n x xs fx) (nodes_head n y ys fy) (nodes_placed n x xs fx.normal) (nodes_placed n y ys fy.normal) first r.0 in
      ap (λ a. a ∷ map F xs) here ∙ ap (λ l. F y ∷ l) (nodes_same xs ys h.1 (nodes_tail n x xs fx) (nodes_tail n y ys fy) rest r.1)

  cycle_same : (xs ys : List Node) → 3 ≤ length xs → 3 ≤ length ys → AllByRecursion NodeSame xs → AreFitNodes n xs → AreFitNodes n ys →
      rises (leasts (map arranged xs)) ≡ true → rises (leasts (map arranged ys)) ≡ true → all_of (belows (map part xs)) ≡ all_of (belows (map part ys)) →
      SameFamily (cycle_cuts (map part xs)) (cycle_cuts (map part ys)) → map F xs ≡ map F ys
  cycle_same [] ys kx ky h fx fy rx ry e s = absurd (omega (arith, kx))
  cycle_same (x ∷ []) ys kx ky h fx fy rx ry e s = absurd (omega (arith, kx))
  cycle_same (x ∷ (z ∷ xs)) [] kx ky h fx fy rx ry e s = absurd (omega (arith, ky))
  cycle_same (x ∷ (z ∷ xs)) (y ∷ []) kx ky h fx fy rx ry e s = absurd (omega (arith, ky))
  cycle_same (x ∷ (z ∷ xs)) (y ∷ (w ∷ ys)) kx ky h fx fy rx ry e s =
      let wx : VertexSet = all_of (belows (map part (x ∷ (z ∷ xs)))) in
      let wy : VertexSet = all_of (belows (map part (y ∷ (w ∷ ys)))) in
      let rowx = nodes_row n (x ∷ (z ∷ xs)) fx in
      let rowy = nodes_row n (y ∷ (w ∷ ys)) fy in
      let a = least (arranged x).vertices in
      let b = last_from (least (arranged z).vertices) (leasts (map arranged xs)) in
      let a' = least (arranged y).vertices in
      let b' = last_from (least (arranged w).vertices) (leasts (map arranged ys)) in
      let first : (part x).below ≡ (part y).below =
      first_same (part x) (part z) (part y) (part w) (map part xs) (map part ys) rowx rowy
      (λ v k. sym (at_of wx wy e v) ∙ k) (λ v k. at_of wx wy e v ∙ k) s a b a' b'
      (node_least n x (nodes_head n x (z ∷ xs) fx) (nodes_placed n x (z ∷ xs) fx.normal)) (last_least n z xs (nodes_tail n x (z ∷ xs) fx))
      (node_least n y (nodes_head n y (w ∷ ys) fy) (nodes_placed n y (w ∷ ys) fy.normal)) (last_least n w ys (nodes_tail n y (w ∷ ys) fy))
      (ltb-true a b rx) (ltb-true a' b' ry) in
      let rest = cycle_order (part x) (part y) (map part (z ∷ xs)) (map part (w ∷ ys)) rowx rowy first s in
      nodes_same (x ∷ (z ∷ xs)) (y ∷ (w ∷ ys)) h fx fy (ap (λ t. t ∷ belows (map part (z ∷ xs))) first ∙ ap (λ l. (part y).below ∷ l) rest) s

  cycle_cycle : (c d : Children) → AllByRecursion NodeSame (nodes_in c) → IsFitBlock n (Cycle c) → IsFitBlock n (Cycle d) →
      (block_part (Cycle c)).below ≡ (block_part (Cycle d)).below → SameFamily (block_part (Cycle c)).cuts (block_part (Cycle d)).cuts → G (Cycle c) ≡ G (Cycle d)
  cycle_cycle c d h fc fd e s =
      let gc = cycle_children n c fc in
      let gd = cycle_children n d fd in
      let xs = nodes_in c in
      let ys = nodes_in d in
      let below : all_of (belows (map part xs)) ≡ all_of (belows (map part ys)) = sym (ap (λ (p : Part). p.below) (cycle_part c)) ∙ e ∙ ap (λ (p : Part). p.below) (cycle_part d) in
      let cuts : SameFamily (cycle_cuts (map part xs)) (cycle_cuts (map part ys)) =
      subst (λ (p : Part). SameFamily p.cuts (cycle_cuts (map part ys))) (cycle_part c) (subst (λ (p : Part). SameFamily (block_part (Cycle c)).cuts p.cuts) (cycle_part d) s) in
      cycle_is c ∙ ap cycle_of (cycle_same xs ys gc.1 gd.1 h gc.0 gd.0 gc.2 gd.2 below cuts) ∙ sym (cycle_is d)

  cycle_case : (nodes : Children) → AllByRecursion NodeSame (nodes_in nodes) → BlockSame (Cycle nodes)
  cycle_case c h d fb fd e s = elim (view d) [
    | inl y ↦ absurd (bridge_cycle y.0 c (subst (IsFitBlock n) y.1 fd) fb (subst (λ z. (block_part (Cycle c)).below ≡ (block_part z).below) y.1 e)
        (λ t. (subst (λ z. SameFamily (block_part (Cycle c)).cuts (block_part z).cuts) y.1 s t).0))
    | inr y ↦ subst (λ z. G (Cycle c) ≡ G z) (sym y.1)
        (cycle_cycle c y.0 h fb (subst (IsFitBlock n) y.1 fd) (subst (λ z. (block_part (Cycle c)).below ≡ (block_part z).below) y.1 e) (subst (λ z. SameFamily (block_part (Cycle c)).cuts (block_part z).cuts) y.1 s))
  ]

  pub read_alike : (x y : Node) → IsFit n x → IsFit n y → IsPlaced x → IsPlaced y → (part x).below ≡ (part y).below →
      SameFamily ((part x).below ∷ (part x).cuts) ((part y).below ∷ (part y).cuts) → F x ≡ F y
  read_alike = tree_induction NodeSame BlockSame node_case bridge_case cycle_case
