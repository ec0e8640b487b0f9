-- Normal cactuses: no node and no block of them can be spared.
use Rattle.std.specs.Prelude.{Bool, true, false, not, ◌&&◌, ◌||◌, ◌==◌, nat_le, List, ◌∷◌, length, map}
use Rattle.std.specs.List.{list_all}
use Rattle.rooted_cactus.specs.declared.tree.Node.{Node}
use Rattle.rooted_cactus.specs.declared.tree.Block.TheOpen.{Block-F, Blocks-F, Children-F, Node-F, Bridge, Cycle}
use Rattle.rooted_cactus.specs.declared.tree.Block.{Block}
use Rattle.rooted_cactus.specs.declared.tree.Block.TheFolds.{fold-Node, fold-Block}

-- a node: whether it has no vertex, for each block below it whether that is a cycle, and whether all below it is
-- normal
pub record NodeShape : Type 0 where
  pub is_empty : Bool
  pub cycles : List Bool
  pub fine : Bool

-- a block: whether it is a cycle, and whether all below its upper node is normal
pub record BlockShape : Type 0 where
  pub is_cycle : Bool
  pub fine : Bool

-- an empty node lies in two or more blocks; if it lies in exactly two, both are cycles
abbrev pub well_placed : Bool → List Bool → Bool
well_placed is_empty around = not is_empty || (nat_le 2 (length around) && (not (length around == 2) || list_all (λ c. c) around))

-- a node below a block, which is a cycle or a bridge
abbrev pub child_fine : Bool → NodeShape → Bool
child_fine above x = well_placed x.is_empty (above ∷ x.cycles) && x.fine

abbrev pub shape_block_step : Block-F BlockShape (List BlockShape) (List NodeShape) NodeShape → BlockShape
shape_block_step (Bridge child) = record { is_cycle = false; fine = child_fine false child.value }
shape_block_step (Cycle nodes) = record { is_cycle = true; fine = nat_le 2 (length nodes) && list_all (child_fine true) nodes }

abbrev pub shape_blocks_step : Blocks-F BlockShape (List BlockShape) (List NodeShape) NodeShape → List BlockShape
shape_blocks_step b = b.items.items

abbrev pub shape_children_step : Children-F BlockShape (List BlockShape) (List NodeShape) NodeShape → List NodeShape
shape_children_step c = c.items.items

abbrev pub shape_node_step : Node-F BlockShape (List BlockShape) (List NodeShape) NodeShape → NodeShape
shape_node_step x = record { is_empty = length x.vertices == 0; cycles = map (λ (b : BlockShape). b.is_cycle) x.blocks; fine = list_all (λ (b : BlockShape). b.fine) x.blocks }

unfoldable pub shape : Node → NodeShape
shape = fold-Node BlockShape (List BlockShape) (List NodeShape) NodeShape shape_block_step shape_blocks_step shape_children_step shape_node_step

unfoldable pub block_shape : Block → BlockShape
block_shape = fold-Block BlockShape (List BlockShape) (List NodeShape) NodeShape shape_block_step shape_blocks_step shape_children_step shape_node_step

-- every cycle has three or more nodes, with the one above its children; an empty node lies in two or more blocks, and if it
-- lies in exactly two, both are cycles
abbrev pub is_normal : Node → Bool
is_normal root = well_placed (shape root).is_empty (shape root).cycles && (shape root).fine
