-- The equations of the widths of a tree.
use Rattle.std.proofs.Common.{◌≡◌, ℕ, List, ◌∷◌, length, map, ap, ◌∙◌, sym}
use Rattle.std.specs.declared.boxed.Box.{Box}
use Rattle.std.specs.declared.alloc.Global.{Global}
use Rattle.rooted_cactus.specs.Widths.{widths, block_widths, joined, widths_block_step, widths_blocks_step, widths_children_step, widths_node_step}
use Rattle.rooted_cactus.specs.Trees.{blocks, nodes_in}
use Rattle.rooted_cactus.specs.declared.tree.Node.{Node, out-Node}
use Rattle.rooted_cactus.specs.declared.tree.Children.{Children}
use Rattle.rooted_cactus.specs.declared.tree.Block.TheVariants.{Bridge, Cycle, rolls-Bridge, rolls-Cycle}
use Rattle.rooted_cactus.specs.declared.tree.Block.TheOpen as Open
use Rattle.rooted_cactus.specs.declared.tree.Block.TheFolds.{fold_out-Node, fold_out-Blocks, fold_out-Children, fold-roll-Block, fold-Block}

abbrev Numbers : Type 0
Numbers = List ℕ

pub widths_out : (x : Node) → widths x ≡ joined (map block_widths (blocks x))
unfolding widths block_widths
widths_out x = fold_out-Node Numbers Numbers (List Numbers) Numbers widths_block_step widths_blocks_step widths_children_step widths_node_step x
    ∙ fold_out-Blocks Numbers Numbers (List Numbers) Numbers widths_block_step widths_blocks_step widths_children_step widths_node_step (out-Node x).blocks

pub widths_bridge : (child : Box Node Global) → block_widths (Bridge child) ≡ widths child.value
unfolding widths block_widths
widths_bridge child = ap (fold-Block Numbers Numbers (List Numbers) Numbers widths_block_step widths_blocks_step widths_children_step widths_node_step) (sym (rolls-Bridge child))
    ∙ fold-roll-Block Numbers Numbers (List Numbers) Numbers widths_block_step widths_blocks_step widths_children_step widths_node_step (Open.Bridge child)

abbrev pub width_with : List Numbers → Numbers
width_with ls = length ls ∷ joined ls

pub widths_cycle : (nodes : Children) → block_widths (Cycle nodes) ≡ width_with (map widths (nodes_in nodes))
unfolding widths block_widths
widths_cycle nodes = ap (fold-Block Numbers Numbers (List Numbers) Numbers widths_block_step widths_blocks_step widths_children_step widths_node_step) (sym (rolls-Cycle nodes))
    ∙ fold-roll-Block Numbers Numbers (List Numbers) Numbers widths_block_step widths_blocks_step widths_children_step widths_node_step (Open.Cycle nodes)
    ∙ ap width_with (fold_out-Children Numbers Numbers (List Numbers) Numbers widths_block_step widths_blocks_step widths_children_step widths_node_step nodes)
