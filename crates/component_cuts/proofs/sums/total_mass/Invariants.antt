use Rattle.std.proofs.Common.{◌≡◌, true}
use Rattle.component_cuts.proofs.Totals.{mass_to}
use Rattle.component_cuts.proofs.sums.total_mass.Given as goal

abbrev pub invariant-loop-v : goal.invariant-loop-v
invariant-loop-v l = l.total ≡ mass_to l.weights (λ u. true) l.v
