-- The edges of the vertices in the nodes so far lead along the tree.
use Rattle.node_tree.specs.Branches.{IsBranching}
use Rattle.node_tree.proofs.branches.tree_of_branches.Given as goal

abbrev pub invariant-loop-node : goal.invariant-loop-node
invariant-loop-node l = IsBranching l.graph l.value l.branches l.node
