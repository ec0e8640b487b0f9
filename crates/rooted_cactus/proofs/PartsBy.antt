-- The equations of a part if another test decides which vertices a node has.
use Rattle.std.proofs.Common.{◌≡◌, ℕ, List, map, sym, ◌∙◌, ap}
use Rattle.std.specs.declared.boxed.Box.{Box}
use Rattle.std.specs.declared.alloc.Global.{Global}
use Rattle.cut_definitions.specs.Weight.{VertexSet, either}
use Rattle.rooted_cactus.specs.Trees.{vertices, blocks, nodes_in}
use Rattle.rooted_cactus.specs.Sides.{Part, part_by, block_part_by, together, bridge_of, cycle_of, block_step, blocks_step, children_step, node_step_by}
use Rattle.rooted_cactus.specs.declared.tree.Node.{Node, out-Node}
use Rattle.rooted_cactus.specs.declared.tree.Children.{Children}
use Rattle.rooted_cactus.specs.declared.tree.Block.TheVariants.{Bridge, Cycle, rolls-Bridge, rolls-Cycle}
use Rattle.rooted_cactus.specs.declared.tree.Block.TheOpen as Open
use Rattle.rooted_cactus.specs.declared.tree.Block.TheFolds.{fold_out-Node, fold_out-Blocks, fold_out-Children, fold-roll-Block, fold-Block}

pub part_by_out : (sets : List ℕ → VertexSet) (x : Node) → part_by sets x ≡ record { below = either (sets (vertices x)) (together (map (block_part_by sets) (blocks x))).below; cuts = (together (map (block_part_by sets) (blocks x))).cuts }
unfolding part_by block_part_by
part_by_out sets x = fold_out-Node Part Part (List Part) Part block_step blocks_step children_step (node_step_by sets) x
    ∙ ap (λ p. record { below = either (sets (vertices x)) p.below; cuts = p.cuts }) (fold_out-Blocks Part Part (List Part) Part block_step blocks_step children_step (node_step_by sets) (out-Node x).blocks)

pub bridge_by : (sets : List ℕ → VertexSet) (child : Box Node Global) → block_part_by sets (Bridge child) ≡ bridge_of (part_by sets child.value)
unfolding part_by block_part_by
bridge_by sets child = ap (fold-Block Part Part (List Part) Part block_step blocks_step children_step (node_step_by sets)) (sym (rolls-Bridge child))
    ∙ fold-roll-Block Part Part (List Part) Part block_step blocks_step children_step (node_step_by sets) (Open.Bridge child)

pub cycle_by : (sets : List ℕ → VertexSet) (nodes : Children) → block_part_by sets (Cycle nodes) ≡ cycle_of (map (part_by sets) (nodes_in nodes))
unfolding part_by block_part_by
cycle_by sets nodes = ap (fold-Block Part Part (List Part) Part block_step blocks_step children_step (node_step_by sets)) (sym (rolls-Cycle nodes))
    ∙ fold-roll-Block Part Part (List Part) Part block_step blocks_step children_step (node_step_by sets) (Open.Cycle nodes)
    ∙ ap cycle_of (fold_out-Children Part Part (List Part) Part block_step blocks_step children_step (node_step_by sets) nodes)
