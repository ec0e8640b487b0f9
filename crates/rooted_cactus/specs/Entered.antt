-- The nodes of a tree in the order in which it is entered: a node, then its blocks in order.
use Rattle.std.specs.Prelude.{ℕ, slice_index_or, map, List, ◌∷◌}
use Rattle.std.specs.List.{flat_map}
use Rattle.rooted_cactus.specs.declared.tree.Node.{Node}
use Rattle.rooted_cactus.specs.declared.tree.Block.{Block}
use Rattle.rooted_cactus.specs.declared.tree.Block.TheOpen.{Block-F, Blocks-F, Children-F, Node-F, Bridge, Cycle}
use Rattle.rooted_cactus.specs.declared.tree.Block.TheFolds.{fold-Node, fold-Block}

-- lists of lists, one after another
abbrev pub in_order : List (List (List ℕ)) → List (List ℕ)
in_order = flat_map (λ (l : List (List ℕ)). l)

abbrev pub entered_block_step : Block-F (List (List ℕ)) (List (List ℕ)) (List (List ℕ)) (List (List ℕ)) → List (List ℕ)
entered_block_step (Bridge child) = child.value
entered_block_step (Cycle nodes) = nodes

abbrev pub entered_blocks_step : Blocks-F (List (List ℕ)) (List (List ℕ)) (List (List ℕ)) (List (List ℕ)) → List (List ℕ)
entered_blocks_step b = in_order b.items.items

abbrev pub entered_children_step : Children-F (List (List ℕ)) (List (List ℕ)) (List (List ℕ)) (List (List ℕ)) → List (List ℕ)
entered_children_step c = in_order c.items.items

abbrev pub entered_node_step : Node-F (List (List ℕ)) (List (List ℕ)) (List (List ℕ)) (List (List ℕ)) → List (List ℕ)
entered_node_step x = x.vertices ∷ x.blocks

-- the vertices of each node
unfoldable pub entered : Node → List (List ℕ)
entered = fold-Node (List (List ℕ)) (List (List ℕ)) (List (List ℕ)) (List (List ℕ)) entered_block_step entered_blocks_step entered_children_step entered_node_step

-- the vertices of each node in or below a block, in the order of entering, without the node above
unfoldable pub entered_block : Block → List (List ℕ)
entered_block = fold-Block (List (List ℕ)) (List (List ℕ)) (List (List ℕ)) (List (List ℕ)) entered_block_step entered_blocks_step entered_children_step entered_node_step

-- the entry of the table at the place of the number, or the number itself if there is none
abbrev pub name_of : List ℕ → ℕ → ℕ
name_of names v = slice_index_or names v v

abbrev pub renamed : List ℕ → List ℕ → List ℕ
renamed names = map (name_of names)
