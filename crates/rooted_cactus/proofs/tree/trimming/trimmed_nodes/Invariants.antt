use Rattle.std.proofs.Common.{◌≡◌, ◌++◌, length, map}
use Rattle.rooted_cactus.specs.Trees.{nodes_in}
use Rattle.rooted_cactus.specs.Entries.{top_first}
use Rattle.rooted_cactus.specs.Trims.{trimmed_node}
use Rattle.rooted_cactus.proofs.tree.trimming.trimmed_nodes.Given as goal

abbrev pub invariant-close : goal.invariant-close
invariant-close l = nodes_in l.children ++ map trimmed_node (top_first l.nodes.items) ≡ map trimmed_node (top_first l.fn.nodes.items)

abbrev pub decreases-close : goal.decreases-close
decreases-close l = length l.nodes.items
