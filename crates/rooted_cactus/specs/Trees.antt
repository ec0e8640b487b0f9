-- The lists of a tree, as contracts see them.
use Rattle.std.specs.Prelude.{ℕ, List}
use Rattle.rooted_cactus.specs.declared.tree.Node.{Node, out-Node}
use Rattle.rooted_cactus.specs.declared.tree.Block.{Block}
use Rattle.rooted_cactus.specs.declared.tree.Blocks.{Blocks, out-Blocks}
use Rattle.rooted_cactus.specs.declared.tree.Children.{Children, out-Children}

-- the blocks of a list of blocks
abbrev pub blocks_in : Blocks → List Block
blocks_in b = (out-Blocks b).items.items

-- the nodes of a cycle below its upper node
abbrev pub nodes_in : Children → List Node
nodes_in c = (out-Children c).items.items

-- the vertices of a node
abbrev pub vertices : Node → List ℕ
vertices x = (out-Node x).vertices

-- the blocks below a node
abbrev pub blocks : Node → List Block
blocks x = blocks_in (out-Node x).blocks
