-- Each cut has the set of an end node inside, and no such set is empty.
use Rattle.std.proofs.Common.{◌≡◌, ℕ, ◌≤◌, inl, inr, Bool, true, false, ◌||◌, ◌==◌, List, [], ◌∷◌, ◌++◌, length, map, ap, ◌∙◌, sym, subst, arith}
use Rattle.std.specs.Prelude.{nat_le}
use Rattle.std.specs.List.{AllByRecursion, Contains, list_all}
use Rattle.std.specs.declared.boxed.Box.{Box}
use Rattle.std.specs.declared.alloc.Global.{Global}
use Rattle.std.proofs.lemmas.Bool.{and_parts, leb-true, or_left, or_right, false≢true}
use Rattle.std.proofs.lemmas.List.{length-map}
use Rattle.std.proofs.lemmas.List.Elements.{Contains-append_left, Contains-append_right, Contains-append_cases}
use Rattle.cut_definitions.specs.Weight.{VertexSet, either}
use Rattle.cut_definitions.specs.Cuts.{has}
use Rattle.cut_definitions.proofs.Bridge.{has_first_of}
use Rattle.cut_definitions.proofs.Lists.{Contains-here, Contains-cons_cases, Contains-nil}
use Rattle.rooted_cactus.specs.Sides.{Part, part, block_part, all_of, belows, all_cuts, bridge_of, cycle_of}
use Rattle.rooted_cactus.specs.Normal.{shape, block_shape, child_fine, well_placed, BlockShape}
use Rattle.rooted_cactus.specs.Entered.{in_order}
use Rattle.rooted_cactus.specs.Trees.{vertices, blocks, nodes_in}
use Rattle.rooted_cactus.specs.declared.tree.Node.{Node}
use Rattle.rooted_cactus.specs.declared.tree.Block.{Block}
use Rattle.rooted_cactus.specs.declared.tree.Children.{Children}
use Rattle.rooted_cactus.specs.declared.tree.Block.TheVariants.{Bridge, Cycle}
use Rattle.rooted_cactus.proofs.Parts.{part_out, bridge_part, cycle_part}
use Rattle.rooted_cactus.proofs.Shapes.{bridge_shape, cycle_fine}
use Rattle.edge_augment.specs.Ends.{leaves, block_leaves, leaves_of}
use Rattle.edge_augment.proofs.Leaves.{leaves_out, leaves_bridge, leaves_cycle}
use Rattle.rooted_cactus.proofs.Fits.{child_splits}
use Rattle.rooted_cactus.proofs.Sets.{IsIn, HasOne}
use Rattle.rooted_cactus.proofs.Cycles.{here_above, cycle_cuts, cycle_cases}
use Rattle.rooted_cactus.proofs.Views.{block_induction, each}

-- one of the lists is within a set
abbrev pub HasInside : List (List ℕ) → VertexSet → Type 0
HasInside ls s = (l : List ℕ) × Contains ls l × IsIn (has l) s

abbrev pub AreFine : List Block → Type 0
AreFine bs = list_all (λ b. (block_shape b).fine) bs ≡ true

abbrev pub IsFull : List (List ℕ) → Type 0
IsFull ls = (l : List ℕ) → Contains ls l → HasOne (has l)

-- what is shown of a node: a leaf below it, one in each cut, and none empty if it is well placed
pub record IsRich (p : Part) (ls : List (List ℕ)) : Type 0 where
  pub some : HasInside ls p.below
  pub each_cut : (s : VertexSet) → Contains p.cuts s → HasInside ls s

abbrev NodeRich : Node → Type 0
NodeRich x = (AreFine (blocks x) → IsRich (part x) (leaves x)) × ((above : Bool) → child_fine above (shape x) ≡ true → IsFull (leaves x))

abbrev BlockRich : Block → Type 0
BlockRich b = (block_shape b).fine ≡ true → IsRich (block_part b) (block_leaves b) × IsFull (block_leaves b)

more_left : (ls ms : List (List ℕ)) (s : VertexSet) → HasInside ls s → HasInside (ls ++ ms) s
more_left ls ms s h = (h.0, Contains-append_left ls ms h.0 h.1, h.2)

more_right : (ls ms : List (List ℕ)) (s : VertexSet) → HasInside ms s → HasInside (ls ++ ms) s
more_right ls ms s h = (h.0, Contains-append_right ls ms h.0 h.1, h.2)

pub fine_split : (b : Block) (bs : List Block) → AreFine (b ∷ bs) → ((block_shape b).fine ≡ true) × AreFine bs
fine_split b bs h = and_parts (block_shape b).fine (list_all (λ c. (block_shape c).fine) bs) h

blocks_cut : (bs : List Block) → AllByRecursion BlockRich bs → AreFine bs → (s : VertexSet) → Contains (all_cuts (map block_part bs)) s → HasInside (in_order (map block_leaves bs)) s
blocks_cut [] h f s c = absurd (Contains-nil s c)
blocks_cut (b ∷ bs) h f s c =
    let g = fine_split b bs f in
    elim (Contains-append_cases (block_part b).cuts (all_cuts (map block_part bs)) s c) [
      | inl k ↦ more_left (block_leaves b) (in_order (map block_leaves bs)) s ((h.0 g.0).0.each_cut s k)
      | inr k ↦ more_right (block_leaves b) (in_order (map block_leaves bs)) s (blocks_cut bs h.1 g.1 s k)
    ]

blocks_full : (bs : List Block) → AllByRecursion BlockRich bs → AreFine bs → IsFull (in_order (map block_leaves bs))
blocks_full [] h f l c = absurd (Contains-nil l c)
blocks_full (b ∷ bs) h f l c =
    let g = fine_split b bs f in
    elim (Contains-append_cases (block_leaves b) (in_order (map block_leaves bs)) l c) [ inl k ↦ (h.0 g.0).1 l k | inr k ↦ blocks_full bs h.1 g.1 l k ]

abbrev part_with : List ℕ → List Block → Part
part_with own bs = record { below = either (has own) (all_of (belows (map block_part bs))); cuts = all_cuts (map block_part bs) }

node_rich : (own : List ℕ) (bs : List Block) → AllByRecursion BlockRich bs → AreFine bs → IsRich (part_with own bs) (leaves_of own (map block_leaves bs))
node_rich own [] h f = record {
  some = (own, Contains-here own [], λ v e. or_left (has own v) false e);
  each_cut = λ s c. absurd (Contains-nil s c);
}
node_rich own (b ∷ bs) h f =
    let g = fine_split b bs f in
    let one = (h.0 g.0).0.some in
    record {
      some = (
        one.0,
        Contains-append_left (block_leaves b) (in_order (map block_leaves bs)) one.0 one.1,
        λ v e. or_right (has own v) ((block_part b).below v || all_of (belows (map block_part bs)) v) (or_left ((block_part b).below v) (all_of (belows (map block_part bs)) v) (one.2 v e)),
      );
      each_cut = λ s c. blocks_cut (b ∷ bs) h f s c;
    }

node_full : (above : Bool) (own : List ℕ) (bs : List Block) → AllByRecursion BlockRich bs → AreFine bs →
    well_placed (length own == 0) (above ∷ map (λ b. (block_shape b).is_cycle) bs) ≡ true → IsFull (leaves_of own (map block_leaves bs))
node_full above [] [] h f w l c = absurd (false≢true w)
node_full above (v ∷ vs) [] h f w l c = elim (Contains-cons_cases (v ∷ vs) [] l c) [
  | inl e ↦ subst (λ m. HasOne (has m)) e (v, has_first_of v vs)
  | inr k ↦ absurd (Contains-nil l k)
]
node_full above own (b ∷ bs) h f w l c = blocks_full (b ∷ bs) h f l c

node_case : (x : Node) → AllByRecursion BlockRich (blocks x) → NodeRich x
node_case x h = (
  (λ f. subst (λ ls. IsRich (part x) ls) (sym (leaves_out x)) (subst (λ p. IsRich p (leaves_of (vertices x) (map block_leaves (blocks x)))) (sym (part_out x)) (node_rich (vertices x) (blocks x) h f))),
  (λ above k. let s = child_splits above x k in subst IsFull (sym (leaves_out x)) (node_full above (vertices x) (blocks x) h s.1 s.0)),
)

bridge_case : (child : Box Node Global) → NodeRich child.value → BlockRich (Bridge child)
bridge_case child h f =
    let x = child.value in
    let k : child_fine false (shape x) ≡ true = sym (ap (λ (s : BlockShape). s.fine) (bridge_shape child)) ∙ f in
    let r = h.0 (child_splits false x k).1 in
    let here : IsRich (bridge_of (part x)) (leaves x) = record {
      some = r.some;
      each_cut = λ s c. elim (Contains-cons_cases (part x).below (part x).cuts s c) [ inl e ↦ subst (λ t. HasInside (leaves x) t) e r.some | inr m ↦ r.each_cut s m ];
    } in (
      subst (λ p. IsRich p (block_leaves (Bridge child))) (sym (bridge_part child)) (subst (λ ls. IsRich (bridge_of (part x)) ls) (sym (leaves_bridge child)) here),
      subst IsFull (sym (leaves_bridge child)) (h.1 false k),
    )

abbrev AreFineNodes : List Node → Type 0
AreFineNodes xs = list_all (λ x. child_fine true (shape x)) xs ≡ true

nodes_split : (x : Node) (xs : List Node) → AreFineNodes (x ∷ xs) → (child_fine true (shape x) ≡ true) × AreFineNodes xs
nodes_split x xs h = and_parts (child_fine true (shape x)) (list_all (λ y. child_fine true (shape y)) xs) h

nodes_cut : (xs : List Node) → AllByRecursion NodeRich xs → AreFineNodes xs → (s : VertexSet) → Contains (cycle_cuts (map part xs)) s → HasInside (in_order (map leaves xs)) s
nodes_cut [] h f s c = absurd (Contains-nil s c)
nodes_cut (x ∷ xs) h f s c =
    let g = nodes_split x xs f in
    let r = h.0.0 (child_splits true x g.0).1 in
    elim (cycle_cases (part x) (map part xs) s c) [
      | inl k ↦ more_left (leaves x) (in_order (map leaves xs)) s (r.some.0, r.some.1, λ v e. here_above (part x).below (belows (map part xs)) s k v (r.some.2 v e))
      | inr m ↦ elim m [
        | inl k ↦ more_left (leaves x) (in_order (map leaves xs)) s (r.each_cut s k)
        | inr k ↦ more_right (leaves x) (in_order (map leaves xs)) s (nodes_cut xs h.1 g.1 s k)
      ]
    ]

nodes_full : (xs : List Node) → AllByRecursion NodeRich xs → AreFineNodes xs → IsFull (in_order (map leaves xs))
nodes_full [] h f l c = absurd (Contains-nil l c)
nodes_full (x ∷ xs) h f l c =
    let g = nodes_split x xs f in
    elim (Contains-append_cases (leaves x) (in_order (map leaves xs)) l c) [ inl k ↦ h.0.1 true g.0 l k | inr k ↦ nodes_full xs h.1 g.1 l k ]

nodes_some : (xs : List Node) → 2 ≤ length xs → AllByRecursion NodeRich xs → AreFineNodes xs → HasInside (in_order (map leaves xs)) (all_of (belows (map part xs)))
nodes_some [] w h f = absurd (omega (arith, w))
nodes_some (x ∷ xs) w h f =
    let r = h.0.0 (child_splits true x (nodes_split x xs f).0).1 in
    more_left (leaves x) (in_order (map leaves xs)) (all_of (belows (map part (x ∷ xs)))) (r.some.0, r.some.1, λ v e. or_left ((part x).below v) (all_of (belows (map part xs)) v) (r.some.2 v e))

cycle_case : (nodes : Children) → AllByRecursion NodeRich (nodes_in nodes) → BlockRich (Cycle nodes)
cycle_case nodes h f =
    let xs = nodes_in nodes in
    let g = and_parts (nat_le 2 (length (map shape xs))) (list_all (λ x. child_fine true (shape x)) xs) (sym (cycle_fine nodes) ∙ f) in
    let wide : 2 ≤ length xs = omega (arith, leb-true 2 (length (map shape xs)) g.0, length-map xs shape) in
    let here : IsRich (cycle_of (map part xs)) (in_order (map leaves xs)) = record {
      some = nodes_some xs wide h g.1;
      each_cut = λ s c. nodes_cut xs h g.1 s c;
    } in (
      subst (λ p. IsRich p (block_leaves (Cycle nodes))) (sym (cycle_part nodes)) (subst (λ ls. IsRich (cycle_of (map part xs)) ls) (sym (leaves_cycle nodes)) here),
      subst IsFull (sym (leaves_cycle nodes)) (nodes_full xs h g.1),
    )

pub block_rich : (b : Block) → (block_shape b).fine ≡ true → IsRich (block_part b) (block_leaves b) × IsFull (block_leaves b)
block_rich = block_induction NodeRich BlockRich node_case bridge_case cycle_case

pub cuts_rich : (bs : List Block) → AreFine bs → (s : VertexSet) → Contains (all_cuts (map block_part bs)) s → HasInside (in_order (map block_leaves bs)) s
cuts_rich bs f s c = blocks_cut bs (each BlockRich block_rich bs) f s c

pub leaves_full : (bs : List Block) → AreFine bs → IsFull (in_order (map block_leaves bs))
leaves_full bs f = blocks_full bs (each BlockRich block_rich bs) f
