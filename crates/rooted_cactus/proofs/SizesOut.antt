-- The equations of the sizes of subtrees.
use Rattle.std.proofs.Common.{◌≡◌, ℕ, ◌+◌, List, ◌∷◌, length, ap, ◌∙◌, sym}
use Rattle.std.specs.List.{flat_map}
use Rattle.std.specs.declared.boxed.Box.{Box}
use Rattle.std.specs.declared.alloc.Global.{Global}
use Rattle.rooted_cactus.specs.Trees.{blocks, nodes_in}
use Rattle.rooted_cactus.specs.declared.tree.Node.{Node, out-Node}
use Rattle.rooted_cactus.specs.declared.tree.Children.{Children}
use Rattle.rooted_cactus.specs.declared.tree.Block.TheVariants.{Bridge, Cycle, rolls-Bridge, rolls-Cycle}
use Rattle.rooted_cactus.specs.declared.tree.Block.TheOpen as Open
use Rattle.rooted_cactus.specs.declared.tree.Block.TheFolds.{fold_out-Node, fold_out-Blocks, fold_out-Children, fold-roll-Block, fold-Block}
use Rattle.rooted_cactus.specs.Outlines.{sizes, block_sizes, sizes_block_step, sizes_blocks_step, sizes_children_step, sizes_node_step}
use Rattle.rooted_cactus.proofs.Built.{joined_map}

abbrev Numbers : Type 0
Numbers = List ℕ

abbrev pub with_size : Numbers → Numbers
with_size l = (length l + 1) ∷ l

pub sizes_out : (x : Node) → sizes x ≡ with_size (flat_map block_sizes (blocks x))
unfolding sizes block_sizes
sizes_out x = fold_out-Node Numbers Numbers Numbers Numbers sizes_block_step sizes_blocks_step sizes_children_step sizes_node_step x
    ∙ ap with_size (fold_out-Blocks Numbers Numbers Numbers Numbers sizes_block_step sizes_blocks_step sizes_children_step sizes_node_step (out-Node x).blocks
    ∙ joined_map (fold-Block Numbers Numbers Numbers Numbers sizes_block_step sizes_blocks_step sizes_children_step sizes_node_step) (blocks x))

pub sizes_bridge : (child : Box Node Global) → block_sizes (Bridge child) ≡ sizes child.value
unfolding sizes block_sizes
sizes_bridge child = ap (fold-Block Numbers Numbers Numbers Numbers sizes_block_step sizes_blocks_step sizes_children_step sizes_node_step) (sym (rolls-Bridge child))
    ∙ fold-roll-Block Numbers Numbers Numbers Numbers sizes_block_step sizes_blocks_step sizes_children_step sizes_node_step (Open.Bridge child)

pub sizes_cycle : (nodes : Children) → block_sizes (Cycle nodes) ≡ flat_map sizes (nodes_in nodes)
unfolding sizes block_sizes
sizes_cycle nodes = ap (fold-Block Numbers Numbers Numbers Numbers sizes_block_step sizes_blocks_step sizes_children_step sizes_node_step) (sym (rolls-Cycle nodes))
    ∙ fold-roll-Block Numbers Numbers Numbers Numbers sizes_block_step sizes_blocks_step sizes_children_step sizes_node_step (Open.Cycle nodes)
    ∙ fold_out-Children Numbers Numbers Numbers Numbers sizes_block_step sizes_blocks_step sizes_children_step sizes_node_step nodes
    ∙ joined_map sizes (nodes_in nodes)
