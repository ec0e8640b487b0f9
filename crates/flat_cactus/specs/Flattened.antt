-- The flat cactus of a rooted one: the nodes numbered in the order in which the tree is entered.
use Rattle.std.specs.Prelude.{ℕ, ◌+◌, List, [], ◌∷◌, ◌++◌}
use Rattle.rooted_cactus.specs.declared.tree.Node.{Node}
use Rattle.rooted_cactus.specs.declared.tree.Block.{Block}
use Rattle.rooted_cactus.specs.declared.tree.Block.TheOpen.{Block-F, Blocks-F, Children-F, Node-F, Bridge, Cycle}
use Rattle.rooted_cactus.specs.declared.tree.Block.TheFolds.{fold-Node, fold-Block}
use Rattle.rooted_cactus.specs.Entered.{entered}
use Rattle.rooted_cactus.specs.Rooted.{Rooted}
use Rattle.flat_cactus.specs.Flat.{Flat}

-- what joins numbered nodes: bridges as pairs, and cycles as lists
pub record Joins : Type 0 where
  pub bridges : List (ℕ × ℕ)
  pub cycles : List (List ℕ)

abbrev pub no_joins : Joins
no_joins = record { bridges = []; cycles = [] }

abbrev pub beside : Joins → Joins → Joins
beside a b = record { bridges = a.bridges ++ b.bridges; cycles = a.cycles ++ b.cycles }

-- a tree: the number of its nodes, and what joins them if they are numbered from a number on
pub record TreeJoins : Type 0 where
  pub size : ℕ
  pub joins : ℕ → Joins

-- a block: the number of its nodes below the upper one, and what joins them if that one has a number and they are numbered from another on
pub record BlockJoins : Type 0 where
  pub size : ℕ
  pub joins : ℕ → ℕ → Joins

-- trees side by side: the number of their nodes, the numbers of their roots, and what joins the nodes of each
abbrev pub trees_size : List TreeJoins → ℕ
trees_size [] = 0
trees_size (t ∷ ts) = t.size + trees_size ts

abbrev pub roots_from : ℕ → List TreeJoins → List ℕ
roots_from first [] = []
roots_from first (t ∷ ts) = first ∷ roots_from (first + t.size) ts

abbrev pub trees_from : ℕ → List TreeJoins → Joins
trees_from first [] = no_joins
trees_from first (t ∷ ts) = beside (t.joins first) (trees_from (first + t.size) ts)

-- blocks side by side below the node `up`
abbrev pub blocks_size : List BlockJoins → ℕ
blocks_size [] = 0
blocks_size (b ∷ bs) = b.size + blocks_size bs

abbrev pub blocks_from : ℕ → ℕ → List BlockJoins → Joins
blocks_from up first [] = no_joins
blocks_from up first (b ∷ bs) = beside (b.joins up first) (blocks_from up (first + b.size) bs)

-- a bridge, before those below it
abbrev pub bridge_before : ℕ × ℕ → Joins → Joins
bridge_before b j = record { bridges = b ∷ j.bridges; cycles = j.cycles }

-- a cycle, before those below it
abbrev pub cycle_before : List ℕ → Joins → Joins
cycle_before c j = record { bridges = j.bridges; cycles = c ∷ j.cycles }

abbrev pub bridge_joins : TreeJoins → BlockJoins
bridge_joins t = record { size = t.size; joins = λ up first. bridge_before (up, first) (t.joins first) }

-- the cycle through the upper node and the roots of the trees
abbrev pub cycle_joins : List TreeJoins → BlockJoins
cycle_joins ts = record { size = trees_size ts; joins = λ up first. cycle_before (up ∷ roots_from first ts) (trees_from first ts) }

-- a node above blocks
abbrev pub node_joins : List BlockJoins → TreeJoins
node_joins bs = record { size = 1 + blocks_size bs; joins = λ first. blocks_from first (first + 1) bs }

abbrev pub joins_block_step : Block-F BlockJoins (List BlockJoins) (List TreeJoins) TreeJoins → BlockJoins
joins_block_step (Bridge child) = bridge_joins child.value
joins_block_step (Cycle nodes) = cycle_joins nodes

abbrev pub joins_blocks_step : Blocks-F BlockJoins (List BlockJoins) (List TreeJoins) TreeJoins → List BlockJoins
joins_blocks_step b = b.items.items

abbrev pub joins_children_step : Children-F BlockJoins (List BlockJoins) (List TreeJoins) TreeJoins → List TreeJoins
joins_children_step c = c.items.items

abbrev pub joins_node_step : Node-F BlockJoins (List BlockJoins) (List TreeJoins) TreeJoins → TreeJoins
joins_node_step x = node_joins x.blocks

-- the number of the nodes of a tree, and what joins them
unfoldable pub tree_joins : Node → TreeJoins
tree_joins = fold-Node BlockJoins (List BlockJoins) (List TreeJoins) TreeJoins joins_block_step joins_blocks_step joins_children_step joins_node_step

unfoldable pub block_joins : Block → BlockJoins
block_joins = fold-Block BlockJoins (List BlockJoins) (List TreeJoins) TreeJoins joins_block_step joins_blocks_step joins_children_step joins_node_step

-- what joins the nodes of a tree if its root has the number 0
abbrev pub joins_of : Node → Joins
joins_of root = (tree_joins root).joins 0

-- the flat cactus of a rooted one: a bridge comes before those below it, and so does a cycle, with the node above first
abbrev pub flat_of : Rooted → Flat
flat_of c = record { vertices = c.vertices; nodes = entered c.root; bridges = (joins_of c.root).bridges; cycles = (joins_of c.root).cycles }
