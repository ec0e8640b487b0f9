-- The outline of a tree: what is to be known of each node, in the order of entering, to find all subtrees and blocks.
use Rattle.std.specs.Prelude.{ℕ, zero, suc, ◌+◌, ◌<◌, ◌≡◌, List, [], ◌∷◌, ◌++◌, length, slice_index}
use Rattle.std.specs.List.{flat_map}
use Rattle.rooted_cactus.specs.declared.tree.Node.{Node}
use Rattle.rooted_cactus.specs.declared.tree.Block.{Block}
use Rattle.rooted_cactus.specs.declared.tree.Block.TheOpen.{Block-F, Blocks-F, Children-F, Node-F, Bridge, Cycle}
use Rattle.rooted_cactus.specs.declared.tree.Block.TheFolds.{fold-Node, fold-Block}
use Rattle.rooted_cactus.specs.declared.tree.outline.NodeOutline.{NodeOutline}
use Rattle.rooted_cactus.specs.Widths.{joined}

-- a node without its place in a block: the number of the nodes right below it, and the entries of all nodes below it
pub record Outline : Type 0 where
  pub children : ℕ
  pub inner : List NodeOutline

-- the entries of a node and of all below it
abbrev pub entries_with : ℕ → Outline → List NodeOutline
entries_with head o = record { children = o.children; head = head } ∷ o.inner

-- the entries of the nodes of a block: the first one's head is the number of the nodes
abbrev pub block_entries : List Outline → List NodeOutline
block_entries [] = []
block_entries (o ∷ os) = entries_with (length (o ∷ os)) o ++ flat_map (entries_with 0) os

abbrev pub all_outlines : List (List Outline) → List Outline
all_outlines = flat_map (λ (os : List Outline). os)

abbrev pub block_outline_step : Block-F (List Outline) (List (List Outline)) (List Outline) Outline → List Outline
block_outline_step (Bridge child) = child.value ∷ []
block_outline_step (Cycle nodes) = nodes

abbrev pub blocks_outline_step : Blocks-F (List Outline) (List (List Outline)) (List Outline) Outline → List (List Outline)
blocks_outline_step b = b.items.items

abbrev pub children_outline_step : Children-F (List Outline) (List (List Outline)) (List Outline) Outline → List Outline
children_outline_step c = c.items.items

abbrev pub node_outline_step : Node-F (List Outline) (List (List Outline)) (List Outline) Outline → Outline
node_outline_step x = record { children = length (all_outlines x.blocks); inner = flat_map block_entries x.blocks }

unfoldable pub outline : Node → Outline
outline = fold-Node (List Outline) (List (List Outline)) (List Outline) Outline block_outline_step blocks_outline_step children_outline_step node_outline_step

-- the nodes of a block
unfoldable pub block_outline : Block → List Outline
block_outline = fold-Block (List Outline) (List (List Outline)) (List Outline) Outline block_outline_step blocks_outline_step children_outline_step node_outline_step

-- the entries of all nodes of a tree; its root is the first of no block
abbrev pub outlined : Node → List NodeOutline
outlined x = entries_with 0 (outline x)

abbrev pub sizes_block_step : Block-F (List ℕ) (List ℕ) (List ℕ) (List ℕ) → List ℕ
sizes_block_step (Bridge child) = child.value
sizes_block_step (Cycle nodes) = nodes

abbrev pub sizes_blocks_step : Blocks-F (List ℕ) (List ℕ) (List ℕ) (List ℕ) → List ℕ
sizes_blocks_step b = joined b.items.items

abbrev pub sizes_children_step : Children-F (List ℕ) (List ℕ) (List ℕ) (List ℕ) → List ℕ
sizes_children_step c = joined c.items.items

abbrev pub sizes_node_step : Node-F (List ℕ) (List ℕ) (List ℕ) (List ℕ) → List ℕ
sizes_node_step x = (length x.blocks + 1) ∷ x.blocks

-- for each node of a tree, in the order of entering, the number of the nodes from it down
unfoldable pub sizes : Node → List ℕ
sizes = fold-Node (List ℕ) (List ℕ) (List ℕ) (List ℕ) sizes_block_step sizes_blocks_step sizes_children_step sizes_node_step

-- for each node in or below a block, in the order of entering, the number of the nodes from it down
unfoldable pub block_sizes : Block → List ℕ
block_sizes = fold-Block (List ℕ) (List ℕ) (List ℕ) (List ℕ) sizes_block_step sizes_blocks_step sizes_children_step sizes_node_step

-- some subtrees, one after another, end at a number if the first begins at another
abbrev pub Hops : List ℕ → ℕ → ℕ → ℕ → Type 0
Hops sizes zero from to = from ≡ to
Hops sizes (suc count) from to = (from < length sizes) × Hops sizes count (from + slice_index sizes from) to
