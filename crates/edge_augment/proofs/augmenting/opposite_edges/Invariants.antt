use Rattle.std.proofs.Common.{◌≡◌, take}
use Rattle.edge_augment.specs.NewEdges.{new_edges}
use Rattle.edge_augment.proofs.augmenting.opposite_edges.Given as goal

abbrev pub invariant-pairs : goal.invariant-pairs
invariant-pairs l = l.edges.items ≡ take l.i (new_edges l.sets)
