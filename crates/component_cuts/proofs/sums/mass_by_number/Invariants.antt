use Rattle.component_cuts.proofs.Totals.{AreMassesTo}
use Rattle.component_cuts.proofs.sums.mass_by_number.Given as goal

abbrev pub invariant-loop-v : goal.invariant-loop-v
invariant-loop-v l = AreMassesTo l.weights l.part_of l.count l.v l.sums.items
