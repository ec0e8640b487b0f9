-- The equations of the order of a tree, and the vertices of a tree as lists and as sets.
use Rattle.std.proofs.Common.{◌≡◌, ℕ, ◌&&◌, List, [], ◌∷◌, ◌++◌, length, map, ap, ◌∙◌, sym, refl}
use Rattle.std.specs.Prelude.{nat_le}
use Rattle.std.specs.List.{list_all, AllByRecursion}
use Rattle.std.specs.declared.boxed.Box.{Box}
use Rattle.std.specs.declared.alloc.Global.{Global}
use Rattle.cut_definitions.specs.Weight.{either}
use Rattle.cut_definitions.specs.Cuts.{has}
use Rattle.rooted_cactus.specs.Sides.{Part, part, block_part, all_of, belows}
use Rattle.rooted_cactus.specs.Trees.{vertices, blocks, nodes_in}
use Rattle.rooted_cactus.specs.declared.tree.Node.{Node, out-Node}
use Rattle.rooted_cactus.specs.declared.tree.Block.{Block}
use Rattle.rooted_cactus.specs.declared.tree.Children.{Children}
use Rattle.rooted_cactus.specs.declared.tree.Block.TheVariants.{Bridge, Cycle, rolls-Bridge, rolls-Cycle}
use Rattle.rooted_cactus.specs.declared.tree.Block.TheOpen as Open
use Rattle.rooted_cactus.specs.declared.tree.Block.TheFolds.{fold_out-Node, fold_out-Blocks, fold_out-Children, fold-roll-Block, fold-Block}
use Rattle.rooted_cactus.proofs.Parts.{part_out, bridge_part, cycle_part}
use Rattle.rooted_cactus.proofs.Segments.{has_append}
use Rattle.rooted_cactus.proofs.Induction.{tree_induction}
use Rattle.canonical_cactus.specs.Canonical.{Arranged, arranged, arranged_block, all_vertices, leasts, ascend, rises, arranged_block_step, arranged_blocks_step, arranged_children_step, arranged_node_step}
use Rattle.rooted_cactus.proofs.Views.{block_induction}

abbrev pub node_arranged : List ℕ → List Arranged → Arranged
node_arranged vs bs = record { vertices = vs ++ all_vertices bs; in_order = ascend (leasts bs) && list_all (λ (a : Arranged). a.in_order) bs }

abbrev pub cycle_arranged : List Arranged → Arranged
cycle_arranged xs = record { vertices = all_vertices xs; in_order = nat_le 3 (length xs) && (rises (leasts xs) && list_all (λ (a : Arranged). a.in_order) xs) }

pub arranged_out : (x : Node) → arranged x ≡ node_arranged (vertices x) (map arranged_block (blocks x))
unfolding arranged arranged_block
arranged_out x = fold_out-Node Arranged (List Arranged) (List Arranged) Arranged arranged_block_step arranged_blocks_step arranged_children_step arranged_node_step x
    ∙ ap (node_arranged (vertices x)) (fold_out-Blocks Arranged (List Arranged) (List Arranged) Arranged arranged_block_step arranged_blocks_step arranged_children_step arranged_node_step (out-Node x).blocks)

pub arranged_bridge : (child : Box Node Global) → arranged_block (Bridge child) ≡ arranged child.value
unfolding arranged arranged_block
arranged_bridge child = ap (fold-Block Arranged (List Arranged) (List Arranged) Arranged arranged_block_step arranged_blocks_step arranged_children_step arranged_node_step) (sym (rolls-Bridge child))
    ∙ fold-roll-Block Arranged (List Arranged) (List Arranged) Arranged arranged_block_step arranged_blocks_step arranged_children_step arranged_node_step (Open.Bridge child)

pub arranged_cycle : (nodes : Children) → arranged_block (Cycle nodes) ≡ cycle_arranged (map arranged (nodes_in nodes))
unfolding arranged arranged_block
arranged_cycle nodes = ap (fold-Block Arranged (List Arranged) (List Arranged) Arranged arranged_block_step arranged_blocks_step arranged_children_step arranged_node_step) (sym (rolls-Cycle nodes))
    ∙ fold-roll-Block Arranged (List Arranged) (List Arranged) Arranged arranged_block_step arranged_blocks_step arranged_children_step arranged_node_step (Open.Cycle nodes)
    ∙ ap cycle_arranged (fold_out-Children Arranged (List Arranged) (List Arranged) Arranged arranged_block_step arranged_blocks_step arranged_children_step arranged_node_step nodes)

-- ---- the list of the vertices of a part has exactly those of its set
several : {X : Type 0} (p : X → Part) (a : X → Arranged) (xs : List X) → AllByRecursion (λ x. has (a x).vertices ≡ (p x).below) xs → has (all_vertices (map a xs)) ≡ all_of (belows (map p xs))
several p a [] h = refl
several p a (x ∷ xs) h =
    has_append (a x).vertices (all_vertices (map a xs)) ∙ ap (λ s. either s (has (all_vertices (map a xs)))) h.0 ∙ ap (either (p x).below) (several p a xs h.1)

abbrev NodeCovered : Node → Type 0
NodeCovered x = has (arranged x).vertices ≡ (part x).below

abbrev BlockCovered : Block → Type 0
BlockCovered b = has (arranged_block b).vertices ≡ (block_part b).below

node_case : (x : Node) → AllByRecursion BlockCovered (blocks x) → NodeCovered x
node_case x h =
    ap (λ (a : Arranged). has a.vertices) (arranged_out x) ∙ has_append (vertices x) (all_vertices (map arranged_block (blocks x)))
    ∙ ap (either (has (vertices x))) (several block_part arranged_block (blocks x) h) ∙ sym (ap (λ (p : Part). p.below) (part_out x))

bridge_case : (child : Box Node Global) → NodeCovered child.value → BlockCovered (Bridge child)
bridge_case child h = ap (λ (a : Arranged). has a.vertices) (arranged_bridge child) ∙ h ∙ sym (ap (λ (p : Part). p.below) (bridge_part child))

cycle_case : (nodes : Children) → AllByRecursion NodeCovered (nodes_in nodes) → BlockCovered (Cycle nodes)
cycle_case nodes h =
    ap (λ (a : Arranged). has a.vertices) (arranged_cycle nodes) ∙ several part arranged (nodes_in nodes) h ∙ sym (ap (λ (p : Part). p.below) (cycle_part nodes))

pub node_covered : (x : Node) → has (arranged x).vertices ≡ (part x).below
node_covered = tree_induction NodeCovered BlockCovered node_case bridge_case cycle_case

pub block_covered : (b : Block) → has (arranged_block b).vertices ≡ (block_part b).below
block_covered = block_induction NodeCovered BlockCovered node_case bridge_case cycle_case
