-- Those of the nodes so far are in the list.
use Rattle.std.proofs.Common.{◌≡◌, take}
use Rattle.tree_flattening.proofs.arranging.uppers_in.Given as goal

abbrev pub invariant-nodes : goal.invariant-nodes
invariant-nodes l = l.uppers.items ≡ take l.node l.tree.uppers
