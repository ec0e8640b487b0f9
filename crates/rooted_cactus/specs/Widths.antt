-- How many children the cycles of a tree have.
use Rattle.std.specs.Prelude.{ℕ, List, ◌∷◌, length}
use Rattle.std.specs.List.{flat_map}
use Rattle.rooted_cactus.specs.declared.tree.Node.{Node}
use Rattle.rooted_cactus.specs.declared.tree.Block.{Block}
use Rattle.rooted_cactus.specs.declared.tree.Block.TheOpen.{Block-F, Blocks-F, Children-F, Node-F, Bridge, Cycle}
use Rattle.rooted_cactus.specs.declared.tree.Block.TheFolds.{fold-Node, fold-Block}

-- lists of numbers, one after another
abbrev pub joined : List (List ℕ) → List ℕ
joined = flat_map (λ (l : List ℕ). l)

abbrev pub widths_block_step : Block-F (List ℕ) (List ℕ) (List (List ℕ)) (List ℕ) → List ℕ
widths_block_step (Bridge child) = child.value
widths_block_step (Cycle nodes) = length nodes ∷ joined nodes

abbrev pub widths_blocks_step : Blocks-F (List ℕ) (List ℕ) (List (List ℕ)) (List ℕ) → List ℕ
widths_blocks_step b = joined b.items.items

abbrev pub widths_children_step : Children-F (List ℕ) (List ℕ) (List (List ℕ)) (List ℕ) → List (List ℕ)
widths_children_step c = c.items.items

abbrev pub widths_node_step : Node-F (List ℕ) (List ℕ) (List (List ℕ)) (List ℕ) → List ℕ
widths_node_step x = x.blocks

-- the number of children of each cycle below a node
unfoldable pub widths : Node → List ℕ
widths = fold-Node (List ℕ) (List ℕ) (List (List ℕ)) (List ℕ) widths_block_step widths_blocks_step widths_children_step widths_node_step

-- the number of children of each cycle in a block: the block itself, if it is one, and those below it
unfoldable pub block_widths : Block → List ℕ
block_widths = fold-Block (List ℕ) (List ℕ) (List (List ℕ)) (List ℕ) widths_block_step widths_blocks_step widths_children_step widths_node_step
