-- Whether the nodes of a block are placed as in a normal tree, whatever is below them.
use Rattle.std.specs.Prelude.{Bool, ◌&&◌, ◌||◌, ◌==◌, not, nat_le, ◌∷◌, length, map}
use Rattle.std.specs.List.{list_all}
use Rattle.rooted_cactus.specs.declared.tree.Node.{Node}
use Rattle.rooted_cactus.specs.declared.tree.Block.{Block}
use Rattle.rooted_cactus.specs.Entries.{nodes_of}
use Rattle.rooted_cactus.specs.Trees.{vertices, blocks}
use Rattle.rooted_cactus.specs.Normal.{block_shape, well_placed}

-- a node below a block, which is a cycle or a bridge, lies in enough blocks
abbrev pub is_set : Bool → Node → Bool
is_set above x = well_placed (length (vertices x) == 0) (above ∷ map (λ b. (block_shape b).is_cycle) (blocks x))

-- the nodes below the upper node of a block lie in enough blocks, and a cycle has two or more of them
abbrev pub is_placed : Block → Bool
is_placed b = (not (block_shape b).is_cycle || nat_le 2 (length (nodes_of b))) && list_all (is_set (block_shape b).is_cycle) (nodes_of b)
