-- What is still to be entered while a cactus is flattened, and what entering it does.
use Rattle.std.specs.Prelude.{ℕ, List, [], ◌∷◌, ◌++◌, map, length}
use Rattle.rooted_cactus.specs.declared.tree.Node.{Node}
use Rattle.rooted_cactus.specs.declared.tree.Block.{Block, out-Block}
use Rattle.rooted_cactus.specs.declared.tree.Blocks.{Blocks}
use Rattle.rooted_cactus.specs.declared.tree.Children.{Children}
use Rattle.rooted_cactus.specs.declared.tree.Block.TheOpen.{Block-F, Bridge, Cycle}
use Rattle.flat_cactus.specs.declared.flattening.Task.{Task}
use Rattle.flat_cactus.specs.declared.flattening.Task.TheVariants.{Enter, Hang}
use Rattle.rooted_cactus.specs.Trees.{vertices, blocks, nodes_in}
use Rattle.rooted_cactus.specs.Outlines.{sizes, block_sizes}
use Rattle.flat_cactus.specs.Flat.{Flat}
use Rattle.flat_cactus.specs.Flattened.{tree_joins, roots_from}

-- a node, or a block below the node of a number
pub data Pending : Type 0 where
  node : Node → Pending
  block : ℕ → Block → Pending

abbrev pub pending : Task → Pending
pending (Enter x) = node x.now
pending (Hang b up) = block up b.now

-- the tasks on a stack, the last first
abbrev pub pendings : List Task → List Pending
pendings [] = []
pendings (t ∷ ts) = pendings ts ++ pending t ∷ []

-- the sizes of the subtrees of its nodes
abbrev pub pending_sizes : Pending → List ℕ
pending_sizes (node x) = sizes x
pending_sizes (block up b) = block_sizes b

-- one more node
abbrev pub with_node : Flat → Node → Flat
with_node f x = record f { nodes = f.nodes ++ vertices x ∷ [] }

-- one more bridge, to the node of the next number
abbrev pub with_bridge : Flat → ℕ → Flat
with_bridge f up = record f { bridges = f.bridges ++ (up, length f.nodes) ∷ [] }

-- one more cycle, through roots of trees numbered from the next number on
abbrev pub with_cycle : Flat → ℕ → List Node → Flat
with_cycle f up xs = record f { cycles = f.cycles ++ (up ∷ roots_from (length f.nodes) (map tree_joins xs)) ∷ [] }

-- the flat cactus once a block has been entered, and what has then to be entered next
abbrev pub block_gained : Flat → ℕ → Block-F Block Blocks Children Node → Flat
block_gained f up (Bridge child) = with_node (with_bridge f up) child.value
block_gained f up (Cycle nodes) = with_cycle f up (nodes_in nodes)

abbrev pub block_next : ℕ → Block-F Block Blocks Children Node → List Pending
block_next number (Bridge child) = map (block number) (blocks child.value)
block_next number (Cycle nodes) = map node (nodes_in nodes)

-- the flat cactus once a task is done, and what has then to be entered next
abbrev pub gained : Flat → Pending → Flat
gained f (node x) = with_node f x
gained f (block up b) = block_gained f up (out-Block b)

abbrev pub next_of : ℕ → Pending → List Pending
next_of number (node x) = map (block number) (blocks x)
next_of number (block up b) = block_next number (out-Block b)
