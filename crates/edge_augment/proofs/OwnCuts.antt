-- The set of each end node below a block is a cut.
use Rattle.std.proofs.Common.{ℕ, inl, inr, List, [], ◌∷◌, map, sym, subst}
use Rattle.std.specs.List.{AllByRecursion, Contains}
use Rattle.std.specs.declared.boxed.Box.{Box}
use Rattle.std.specs.declared.alloc.Global.{Global}
use Rattle.std.proofs.lemmas.List.Elements.{Contains-append_left, Contains-append_right, Contains-append_cases}
use Rattle.cut_definitions.specs.Weight.{either}
use Rattle.cut_definitions.specs.Cuts.{has}
use Rattle.cut_definitions.proofs.Lists.{Contains-here, Contains-there, Contains-cons_cases, Contains-nil}
use Rattle.rooted_cactus.specs.Sides.{Part, part, block_part, all_of, belows, all_cuts, nothing}
use Rattle.rooted_cactus.specs.Entered.{in_order}
use Rattle.rooted_cactus.specs.Trees.{vertices, blocks, nodes_in}
use Rattle.rooted_cactus.specs.declared.tree.Node.{Node}
use Rattle.rooted_cactus.specs.declared.tree.Block.{Block}
use Rattle.rooted_cactus.specs.declared.tree.Children.{Children}
use Rattle.rooted_cactus.specs.declared.tree.Block.TheVariants.{Bridge, Cycle}
use Rattle.rooted_cactus.proofs.Parts.{part_out, bridge_part, cycle_part, either_nothing}
use Rattle.edge_augment.specs.Ends.{leaves, block_leaves, leaves_of}
use Rattle.edge_augment.proofs.Leaves.{leaves_out, leaves_bridge, leaves_cycle}
use Rattle.rooted_cactus.proofs.Cycles.{here_first, cycle_cuts, cycle_here, cycle_own, cycle_rest}
use Rattle.rooted_cactus.proofs.Views.{block_induction}

abbrev NodeOwn : Node → Type 0
NodeOwn x = (l : List ℕ) → Contains (leaves x) l → Contains ((part x).below ∷ (part x).cuts) (has l)

abbrev pub BlockOwn : Block → Type 0
BlockOwn b = (l : List ℕ) → Contains (block_leaves b) l → Contains (block_part b).cuts (has l)

pub own_blocks : (bs : List Block) → AllByRecursion BlockOwn bs → (l : List ℕ) → Contains (in_order (map block_leaves bs)) l → Contains (all_cuts (map block_part bs)) (has l)
own_blocks [] h l c = absurd (Contains-nil l c)
own_blocks (b ∷ bs) h l c = elim (Contains-append_cases (block_leaves b) (in_order (map block_leaves bs)) l c) [
  | inl k ↦ Contains-append_left (block_part b).cuts (all_cuts (map block_part bs)) (has l) (h.0 l k)
  | inr k ↦ Contains-append_right (block_part b).cuts (all_cuts (map block_part bs)) (has l) (own_blocks bs h.1 l k)
]

own_node : (own : List ℕ) (bs : List Block) → AllByRecursion BlockOwn bs → (l : List ℕ) → Contains (leaves_of own (map block_leaves bs)) l →
    Contains (either (has own) (all_of (belows (map block_part bs))) ∷ all_cuts (map block_part bs)) (has l)
own_node own [] h l c = elim (Contains-cons_cases own [] l c) [
  | inl e ↦ subst (λ m. Contains (either (has own) nothing ∷ []) (has m)) e
      (subst (λ s. Contains (either (has own) nothing ∷ []) s) (either_nothing (has own)) (Contains-here (either (has own) nothing) []))
  | inr k ↦ absurd (Contains-nil l k)
]
own_node own (b ∷ bs) h l c =
    Contains-there (either (has own) (all_of (belows (map block_part (b ∷ bs))))) (all_cuts (map block_part (b ∷ bs))) (has l) (own_blocks (b ∷ bs) h l c)

node_case : (x : Node) → AllByRecursion BlockOwn (blocks x) → NodeOwn x
node_case x h l c =
    subst (λ (p : Part). Contains (p.below ∷ p.cuts) (has l)) (sym (part_out x)) (own_node (vertices x) (blocks x) h l (subst (λ ls. Contains ls l) (leaves_out x) c))

bridge_case : (child : Box Node Global) → NodeOwn child.value → BlockOwn (Bridge child)
bridge_case child h l c =
    subst (λ (p : Part). Contains p.cuts (has l)) (sym (bridge_part child)) (h l (subst (λ ls. Contains ls l) (leaves_bridge child) c))

own_nodes : (xs : List Node) → AllByRecursion NodeOwn xs → (l : List ℕ) → Contains (in_order (map leaves xs)) l → Contains (cycle_cuts (map part xs)) (has l)
own_nodes [] h l c = absurd (Contains-nil l c)
own_nodes (x ∷ xs) h l c = elim (Contains-append_cases (leaves x) (in_order (map leaves xs)) l c) [
  | inl k ↦ elim (Contains-cons_cases (part x).below (part x).cuts (has l) (h.0 l k)) [
    | inl e ↦ subst (λ s. Contains (cycle_cuts (map part (x ∷ xs))) s) e (cycle_here (part x) (map part xs) (part x).below (here_first (part x).below (belows (map part xs))))
    | inr m ↦ cycle_own (part x) (map part xs) (has l) m
  ]
  | inr k ↦ cycle_rest (part x) (map part xs) (has l) (own_nodes xs h.1 l k)
]

cycle_case : (nodes : Children) → AllByRecursion NodeOwn (nodes_in nodes) → BlockOwn (Cycle nodes)
cycle_case nodes h l c =
    subst (λ (p : Part). Contains p.cuts (has l)) (sym (cycle_part nodes)) (own_nodes (nodes_in nodes) h l (subst (λ ls. Contains ls l) (leaves_cycle nodes) c))

pub block_own : (b : Block) (l : List ℕ) → Contains (block_leaves b) l → Contains (block_part b).cuts (has l)
block_own = block_induction NodeOwn BlockOwn node_case bridge_case cycle_case
