-- No side of a normal cactus is empty.
use Rattle.std.proofs.Common.{◌≡◌, ℕ, ◌<◌, ◌≤◌, inl, inr, true, List, [], ◌∷◌, length, map, refl, ap, ◌∙◌, sym, subst, arith}
use Rattle.std.specs.List.{AllByRecursion, Contains, filter, range_with_len, concat}
use Rattle.std.specs.declared.boxed.Box.{Box}
use Rattle.std.specs.declared.alloc.Global.{Global}
use Rattle.std.proofs.lemmas.Bool.{or_left, or_right, false≢true}
use Rattle.std.proofs.lemmas.List.Elements.{All-contains, Contains-append_cases}
use Rattle.cut_definitions.specs.Weight.{VertexSet}
use Rattle.cut_definitions.specs.Cuts.{has}
use Rattle.cut_definitions.proofs.Bridge.{has_within}
use Rattle.cut_definitions.proofs.Lists.{Contains-cons_cases, Contains-from_map, Contains-nil}
use Rattle.cut_definitions.proofs.ListLaws.{All-from_each}
use Rattle.cut_definitions.proofs.Ascending.{has_contains}
use Rattle.rooted_cactus.specs.Different.{HasNoEmptySide}
use Rattle.rooted_cactus.specs.Entered.{entered}
use Rattle.rooted_cactus.specs.Normal.{is_normal}
use Rattle.cut_definitions.specs.Graph.{IsVertex}
use Rattle.rooted_cactus.specs.Rooted.{Rooted, IsCactus, sides_of}
use Rattle.rooted_cactus.specs.Sides.{Part, part, block_part, all_of, belows, all_cuts, cuts}
use Rattle.rooted_cactus.specs.Trees.{vertices, blocks, nodes_in}
use Rattle.rooted_cactus.specs.declared.tree.Node.{Node}
use Rattle.rooted_cactus.specs.declared.tree.Block.{Block}
use Rattle.rooted_cactus.specs.declared.tree.Children.{Children}
use Rattle.rooted_cactus.specs.declared.tree.Block.TheVariants.{Bridge, Cycle}
use Rattle.rooted_cactus.proofs.Cycles.{cycle_cuts, cycle_cases, here_above}
use Rattle.rooted_cactus.proofs.Fits.{IsFit, IsFitBlock, AreFitBlocks, AreFitNodes, IsPlaced, blocks_head, blocks_tail, nodes_head, nodes_placed, nodes_tail, node_blocks, bridge_child, cycle_children, root_fit}
use Rattle.rooted_cactus.proofs.Layouts.{laid_out}
use Rattle.rooted_cactus.proofs.Once.{all_vertices_within}
use Rattle.rooted_cactus.proofs.Parts.{bridge_part, cycle_part}
use Rattle.rooted_cactus.proofs.Sets.{HasOne}
use Rattle.rooted_cactus.proofs.Views.{block_induction, each}
use Rattle.rooted_cactus.proofs.Trims.{cuts_out}
use Rattle.cactus_growth.proofs.CycleKept.{node_inside}
use Rattle.cactus_growth.proofs.WaysDown.{below_at}

-- a set has a vertex, and so has each of the cuts below it
abbrev pub IsFilled : VertexSet → List VertexSet → Type 0
IsFilled below cuts = HasOne below × ((s : VertexSet) → Contains cuts s → HasOne s)

module _ (n : ℕ) where
  abbrev NodeFilled : Node → Type 0
  NodeFilled x = IsFit n x → IsPlaced x → IsFilled (part x).below (part x).cuts

  abbrev BlockFilled : Block → Type 0
  BlockFilled b = IsFitBlock n b → IsFilled (block_part b).below (block_part b).cuts

  blocks_cuts : (bs : List Block) → AllByRecursion BlockFilled bs → AreFitBlocks n bs → (s : VertexSet) → Contains (all_cuts (map block_part bs)) s → HasOne s
  blocks_cuts [] h f s c = absurd (Contains-nil s c)
  blocks_cuts (b ∷ bs) h f s c = elim (Contains-append_cases (block_part b).cuts (all_cuts (map block_part bs)) s c) [
    | inl k ↦ (h.0 (blocks_head n b bs f)).1 s k
    | inr k ↦ blocks_cuts bs h.1 (blocks_tail n b bs f) s k
  ]

  blocks_one : (bs : List Block) → AllByRecursion BlockFilled bs → AreFitBlocks n bs → 1 ≤ length bs → HasOne (all_of (belows (map block_part bs)))
  blocks_one [] h f one = absurd (omega (arith, one))
  blocks_one (b ∷ bs) h f one = let w = (h.0 (blocks_head n b bs f)).0 in (w.0, or_left ((block_part b).below w.0) (all_of (belows (map block_part bs)) w.0) w.1)

  later_one : (x : Node) → HasOne (all_of (belows (map block_part (blocks x)))) → HasOne (part x).below
  later_one x w = (w.0, below_at x w.0 ∙ or_right (has (vertices x) w.0) (all_of (belows (map block_part (blocks x))) w.0) w.1)

  node_case : (x : Node) → AllByRecursion BlockFilled (blocks x) → NodeFilled x
  node_case x h f placed =
      let fit = node_blocks n x f in (
        elim placed [
          | inl s ↦ elim s [
            | inl w ↦ (w.0, below_at x w.0 ∙ or_left (has (vertices x) w.0) (all_of (belows (map block_part (blocks x))) w.0) w.1)
            | inr two ↦ later_one x (blocks_one (blocks x) h fit (omega (arith, two)))
          ]
          | inr c ↦ later_one x (blocks_one (blocks x) h fit (omega (arith, ap length c.1)))
        ],
        λ s c. blocks_cuts (blocks x) h fit s (subst (λ l. Contains l s) (cuts_out x) c),
      )

  bridge_case : (child : Box Node Global) → NodeFilled child.value → BlockFilled (Bridge child)
  bridge_case child h f =
      let g = bridge_child n child f in
      let r = h g.0 (inl g.1) in
      let x = child.value in
      subst (λ (q : Part). IsFilled q.below q.cuts) (sym (bridge_part child))
      (r.0, λ s c. elim (Contains-cons_cases (part x).below (part x).cuts s c) [ inl e ↦ subst HasOne e r.0 | inr k ↦ r.1 s k ])

  cycle_filled : (xs : List Node) → AllByRecursion NodeFilled xs → AreFitNodes n xs → (s : VertexSet) → Contains (cycle_cuts (map part xs)) s → HasOne s
  cycle_filled [] h f s c = absurd (Contains-nil s c)
  cycle_filled (x ∷ xs) h f s c =
      let r = h.0 (nodes_head n x xs f) (nodes_placed n x xs f) in
      elim (cycle_cases (part x) (map part xs) s c) [
        | inl k ↦ (r.0.0, here_above (part x).below (belows (map part xs)) s k r.0.0 r.0.1)
        | inr m ↦ elim m [ inl k ↦ r.1 s k | inr k ↦ cycle_filled xs h.1 (nodes_tail n x xs f) s k ]
      ]

  nodes_one : (xs : List Node) → AllByRecursion NodeFilled xs → AreFitNodes n xs → 2 ≤ length xs → HasOne (all_of (belows (map part xs)))
  nodes_one [] h f two = absurd (omega (arith, two))
  nodes_one (x ∷ xs) h f two =
      let w = (h.0 (nodes_head n x xs f) (nodes_placed n x xs f)).0 in (w.0, or_left ((part x).below w.0) (all_of (belows (map part xs)) w.0) w.1)

  cycle_case : (nodes : Children) → AllByRecursion NodeFilled (nodes_in nodes) → BlockFilled (Cycle nodes)
  cycle_case nodes h f =
      let g = cycle_children n nodes f in
      subst (λ (q : Part). IsFilled q.below q.cuts) (sym (cycle_part nodes)) (nodes_one (nodes_in nodes) h g.0 g.1, cycle_filled (nodes_in nodes) h g.0)

  block_filled : (b : Block) → BlockFilled b
  block_filled = block_induction NodeFilled BlockFilled node_case bridge_case cycle_case

  pub cuts_filled : (root : Node) → IsCactus n root → is_normal root ≡ true → (s : VertexSet) → Contains (part root).cuts s → HasOne s
  cuts_filled root h normal s c =
      blocks_cuts (blocks root) (each BlockFilled block_filled (blocks root)) (node_blocks n root (root_fit n root h normal)) s (subst (λ l. Contains l s) (cuts_out root) c)

some_member : (l : List ℕ) (v : ℕ) → has l v ≡ true → 0 < length l
some_member [] v h = absurd (false≢true h)
some_member (x ∷ l) v h = omega arith

pub no_empty_side : (c : Rooted) → IsCactus c.vertices c.root → is_normal c.root ≡ true → HasNoEmptySide c
no_empty_side c h normal = All-from_each (λ side. 0 < length side) (sides_of c) (λ side m.
    let listing : VertexSet → List ℕ = λ s. filter s (range_with_len 1 c.vertices) in
    let r = Contains-from_map listing (cuts c.root) side m in
    let w = cuts_filled c.vertices c.root h normal r.0 r.1 in
    let below : has (concat (entered c.root)) w.0 ≡ true = sym (ap (λ (t : VertexSet). t w.0) (laid_out c.root).below) ∙ node_inside c.root r.0 r.1 w.0 w.1 in
    let is : IsVertex c.vertices w.0 = All-contains (IsVertex c.vertices) (concat (entered c.root)) w.0 (all_vertices_within c.vertices c.root h) (has_contains (concat (entered c.root)) w.0 below) in
    some_member side w.0 (ap (λ l. has l w.0) (sym r.2) ∙ has_within c.vertices 1 w.0 r.0 is.0 (omega (arith, is.1)) ∙ w.1))

-- nor one of a cactus whose sides are some of its
pub fewer_sides : (c d : Rooted) → ((side : List ℕ) → Contains (sides_of c) side → Contains (sides_of d) side) → HasNoEmptySide d → HasNoEmptySide c
fewer_sides c d f h = All-from_each (λ side. 0 < length side) (sides_of c) (λ side m. All-contains (λ s. 0 < length s) (sides_of d) side h (f side m))

-- a cactus with a side has a block
pub some_block : (c : Rooted) (side : List ℕ) → Contains (sides_of c) side → 1 ≤ length (blocks c.root)
some_block c side m = go (blocks c.root) refl
  where
    go : (bs : List Block) → blocks c.root ≡ bs → 1 ≤ length (blocks c.root)
    go [] e = let r = Contains-from_map (λ s. filter s (range_with_len 1 c.vertices)) (cuts c.root) side m in
        absurd (Contains-nil r.0 (subst (λ l. Contains l r.0) (cuts_out c.root ∙ ap (λ bs. all_cuts (map block_part bs)) e) r.1))
    go (b ∷ bs) e = omega (arith, ap length e)
