-- The equations of what joins the nodes of a tree.
use Rattle.std.proofs.Common.{◌≡◌, List, map, ap, ◌∙◌, sym}
use Rattle.std.specs.declared.boxed.Box.{Box}
use Rattle.std.specs.declared.alloc.Global.{Global}
use Rattle.flat_cactus.specs.Flattened.{TreeJoins, BlockJoins, tree_joins, block_joins, node_joins, bridge_joins, cycle_joins, joins_block_step, joins_blocks_step, joins_children_step, joins_node_step}
use Rattle.rooted_cactus.specs.Trees.{blocks, nodes_in}
use Rattle.rooted_cactus.specs.declared.tree.Node.{Node, out-Node}
use Rattle.rooted_cactus.specs.declared.tree.Children.{Children}
use Rattle.rooted_cactus.specs.declared.tree.Block.TheVariants.{Bridge, Cycle, rolls-Bridge, rolls-Cycle}
use Rattle.rooted_cactus.specs.declared.tree.Block.TheOpen as Open
use Rattle.rooted_cactus.specs.declared.tree.Block.TheFolds.{fold_out-Node, fold_out-Blocks, fold_out-Children, fold-roll-Block, fold-Block}

pub joins_out : (x : Node) → tree_joins x ≡ node_joins (map block_joins (blocks x))
unfolding tree_joins block_joins
joins_out x = fold_out-Node BlockJoins (List BlockJoins) (List TreeJoins) TreeJoins joins_block_step joins_blocks_step joins_children_step joins_node_step x
    ∙ ap node_joins (fold_out-Blocks BlockJoins (List BlockJoins) (List TreeJoins) TreeJoins joins_block_step joins_blocks_step joins_children_step joins_node_step (out-Node x).blocks)

pub joins_bridge : (child : Box Node Global) → block_joins (Bridge child) ≡ bridge_joins (tree_joins child.value)
unfolding tree_joins block_joins
joins_bridge child = ap (fold-Block BlockJoins (List BlockJoins) (List TreeJoins) TreeJoins joins_block_step joins_blocks_step joins_children_step joins_node_step) (sym (rolls-Bridge child))
    ∙ fold-roll-Block BlockJoins (List BlockJoins) (List TreeJoins) TreeJoins joins_block_step joins_blocks_step joins_children_step joins_node_step (Open.Bridge child)

pub joins_cycle : (nodes : Children) → block_joins (Cycle nodes) ≡ cycle_joins (map tree_joins (nodes_in nodes))
unfolding tree_joins block_joins
joins_cycle nodes = ap (fold-Block BlockJoins (List BlockJoins) (List TreeJoins) TreeJoins joins_block_step joins_blocks_step joins_children_step joins_node_step) (sym (rolls-Cycle nodes))
    ∙ fold-roll-Block BlockJoins (List BlockJoins) (List TreeJoins) TreeJoins joins_block_step joins_blocks_step joins_children_step joins_node_step (Open.Cycle nodes)
    ∙ ap cycle_joins (fold_out-Children BlockJoins (List BlockJoins) (List TreeJoins) TreeJoins joins_block_step joins_blocks_step joins_children_step joins_node_step nodes)
