-- The nodes of a tree that have blocks below them, each looked at without what is below the nodes of its blocks.
use Rattle.std.specs.Prelude.{ℕ, Bool, true, ◌≡◌, ◌&&◌, Option, nat_le, List, [], ◌∷◌, ◌++◌, length, map}
use Rattle.std.specs.List.{filter, flat_map, list_all}
use Rattle.rooted_cactus.specs.declared.tree.Node.{Node}
use Rattle.rooted_cactus.specs.declared.tree.Block.{Block, out-Block}
use Rattle.rooted_cactus.specs.declared.tree.Blocks.{Blocks}
use Rattle.rooted_cactus.specs.declared.tree.Children.{Children}
use Rattle.rooted_cactus.specs.declared.tree.Block.TheOpen.{Block-F, Bridge, Cycle}
use Rattle.rooted_cactus.specs.Entries.{nodes_of}
use Rattle.rooted_cactus.specs.Numbers.{is_inner}
use Rattle.rooted_cactus.specs.Trees.{blocks, nodes_in}
use Rattle.canonical_cactus.specs.Canonical.{arranged, arranged_block, ascend, leasts, rises}
use Rattle.canonical_cactus.specs.Standing.{least_in}

-- the nodes right below a node that have blocks below them
abbrev pub inner_below : Node → List Node
inner_below x = filter is_inner (flat_map nodes_of (blocks x))

-- the least vertex at or under a node
abbrev pub least_of : Node → Option ℕ
least_of x = least_in (arranged x).vertices

abbrev pub leasts_of : List Node → List (Option ℕ)
leasts_of = map least_of

-- a bridge, or a cycle with three or more nodes below its upper one, the first with a smaller least vertex than the
-- last
abbrev pub turned_step : Block-F Block Blocks Children Node → Bool
turned_step (Bridge child) = true
turned_step (Cycle nodes) = nat_le 3 (length (nodes_in nodes)) && rises (leasts (map arranged (nodes_in nodes)))

abbrev pub is_turned : Block → Bool
is_turned b = turned_step (out-Block b)

-- the blocks of a node ascend by the least vertices below them, and each cycle of them runs in the right direction
abbrev pub stands : Node → Bool
stands x = ascend (leasts (map arranged_block (blocks x))) && list_all is_turned (blocks x)

-- nodes are taken off the end of a list one after another, and those right below that have blocks are put there
abbrev pub IsWalk : List Node → List Node → List Node → Type 0
IsWalk before [] after = before ≡ after
IsWalk before (x ∷ xs) after = (rest : List Node) × (before ≡ rest ++ x ∷ []) × IsWalk (rest ++ inner_below x) xs after

-- the nodes of a whole walk from the root; all in the tree is in order exactly if the blocks of each of them are
pub record AreInner (root : Node) (nodes : List Node) : Type 0 where
  pub walk : IsWalk (root ∷ []) nodes []
  pub stand : list_all stands nodes ≡ (arranged root).in_order
