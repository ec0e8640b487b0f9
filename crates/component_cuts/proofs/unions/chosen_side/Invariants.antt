use Rattle.std.proofs.Common.{◌≡◌}
use Rattle.component_cuts.specs.Doubling.{chosen_vertices}
use Rattle.component_cuts.proofs.Gathered.{taken_to}
use Rattle.component_cuts.proofs.unions.chosen_side.Given as goal

abbrev pub invariant-loop-v : goal.invariant-loop-v
invariant-loop-v l = l.side ≡ taken_to l.n (chosen_vertices l.part_of l.chosen) l.v
