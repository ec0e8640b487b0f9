-- The sweep is under way, and each step lets a vertex enter.
use Rattle.region_sweep.specs.UnderWay.{IsUnderWay}
use Rattle.region_sweep.proofs.Leaving.{left}
use Rattle.region_sweep.proofs.sweep.Sweep.run_shared.Given as goal

abbrev pub invariant-steps : goal.invariant-steps
invariant-steps g l = IsUnderWay l.graph l.self

abbrev pub decreases-steps : goal.decreases-steps
decreases-steps g l = left l.self.flow.labels
