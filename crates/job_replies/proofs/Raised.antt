-- The cactus of a graph that has a cut is normal if it is canonical, and has a block.
use Rattle.std.proofs.Common.{◌≡◌, ◌≤◌, true, length}
use Rattle.cut_definitions.specs.Graph.{Graph}
use Rattle.rooted_cactus.specs.Normal.{is_normal}
use Rattle.rooted_cactus.specs.Rooted.{Rooted}
use Rattle.rooted_cactus.specs.Trees.{blocks}
use Rattle.rooted_cactus.specs.declared.tree.Node.{Node}
use Rattle.rooted_cactus.specs.declared.solved.Solved.{Solved}
use Rattle.rooted_cactus.specs.Solving.{IsSolved}
use Rattle.canonical_cactus.specs.Canonical.{arranged, is_canonical}
use Rattle.job_replies.specs.Jobs.{IsCactusOf}
use Rattle.cut_definitions.proofs.Bools.{and_first}
use Rattle.flat_cactus.proofs.SomeBlock.{some_block}

-- a canonical cactus is normal
pub normal_of : (root : Node) → is_canonical root ≡ true → is_normal root ≡ true
normal_of root e = and_first (is_normal root) (arranged root).in_order e

-- the cactus of a solved graph that has a cut has a block
pub block_in : (g : Graph) (solved : Solved) → 2 ≤ g.vertices → IsSolved g solved → 1 ≤ length (blocks solved.cactus.root)
block_in g solved two s = some_block g solved.cactus two s.sides

-- the cactus of a graph that has a cut has a block
pub block_of : (g : Graph) (c : Rooted) → 2 ≤ g.vertices → IsCactusOf g c → 1 ≤ length (blocks c.root)
block_of g c two of_graph = some_block g c two of_graph.sides
