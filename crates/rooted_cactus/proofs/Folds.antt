-- What the folds over a tree make of a block, of a list of blocks and of the nodes of a cycle.
use Rattle.std.proofs.Common.{ℕ, List}
use Rattle.rooted_cactus.specs.Sides.{Part, block_step, blocks_step, children_step, node_step}
use Rattle.rooted_cactus.specs.Entered.{entered_block_step, entered_blocks_step, entered_children_step, entered_node_step}
use Rattle.rooted_cactus.specs.CutRanges.{Layout, block_layout_step, blocks_layout_step, children_layout_step, node_layout_step}
use Rattle.rooted_cactus.specs.declared.tree.Block.{Block}
use Rattle.rooted_cactus.specs.declared.tree.Blocks.{Blocks}
use Rattle.rooted_cactus.specs.declared.tree.Children.{Children}
use Rattle.rooted_cactus.specs.declared.tree.Block.TheFolds.{fold-Block, fold-Blocks, fold-Children}

abbrev pub Lists : Type 0
Lists = List (List ℕ)

abbrev pub part_of_block : Block → Part
part_of_block = fold-Block Part Part (List Part) Part block_step blocks_step children_step node_step

abbrev pub part_of_blocks : Blocks → Part
part_of_blocks = fold-Blocks Part Part (List Part) Part block_step blocks_step children_step node_step

abbrev pub parts_of_children : Children → List Part
parts_of_children = fold-Children Part Part (List Part) Part block_step blocks_step children_step node_step

abbrev pub layout_of_block : Block → Layout
layout_of_block = fold-Block Layout Layout (List Layout) Layout block_layout_step blocks_layout_step children_layout_step node_layout_step

abbrev pub layout_of_blocks : Blocks → Layout
layout_of_blocks = fold-Blocks Layout Layout (List Layout) Layout block_layout_step blocks_layout_step children_layout_step node_layout_step

abbrev pub layouts_of_children : Children → List Layout
layouts_of_children = fold-Children Layout Layout (List Layout) Layout block_layout_step blocks_layout_step children_layout_step node_layout_step

abbrev pub lists_of_block : Block → Lists
lists_of_block = fold-Block Lists Lists Lists Lists entered_block_step entered_blocks_step entered_children_step entered_node_step

abbrev pub lists_of_blocks : Blocks → Lists
lists_of_blocks = fold-Blocks Lists Lists Lists Lists entered_block_step entered_blocks_step entered_children_step entered_node_step

abbrev pub lists_of_children : Children → Lists
lists_of_children = fold-Children Lists Lists Lists Lists entered_block_step entered_blocks_step entered_children_step entered_node_step
