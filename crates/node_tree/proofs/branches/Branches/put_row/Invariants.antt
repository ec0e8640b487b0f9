-- The arcs so far lead along the tree.
use Rattle.node_tree.proofs.Branching.{IsInRow}
use Rattle.node_tree.proofs.branches.Branches.put_row.Given as goal

abbrev pub invariant-loop-arc : goal.invariant-loop-arc
invariant-loop-arc l = IsInRow l.graph.vertices l.weight l.fn.self l.self l.node l.arc-items l.arc-index
