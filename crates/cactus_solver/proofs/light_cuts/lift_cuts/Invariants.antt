-- The cuts so far are lifted.
use Rattle.std.proofs.Common.{◌≡◌, map, take}
use Rattle.cactus_solver.specs.LightCuts.{lifted_by}
use Rattle.cactus_solver.proofs.light_cuts.lift_cuts.Given as goal

abbrev pub invariant-loop-cut : goal.invariant-loop-cut
invariant-loop-cut l = l.lifted.items ≡ map (lifted_by l.labels) (take l.cut-index l.cuts)
