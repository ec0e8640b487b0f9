-- What the sweep knows so far.
use Rattle.std.proofs.Common.{◌≡◌}
use Rattle.region_flow.specs.Regions.{IsRegionFlow}
use Rattle.least_cut.specs.Front.{IsPassed}
use Rattle.least_cut.specs.Sweep.{IsSwept}
use Rattle.least_cut.proofs.Sweeping.{outside_count}
use Rattle.least_cut.proofs.sweep.least_weight_within.Given as goal

abbrev pub invariant-sweep : goal.invariant-sweep
invariant-sweep l = record {
  flow : IsRegionFlow l.graph l.flow;
  vertices : l.front.vertices ≡ l.graph.vertices;
  passed : IsPassed l.flow.labels l.front.passed;
  swept : IsSwept l.graph l.bound l.flow.labels l.best;
}

abbrev pub decreases-sweep : goal.decreases-sweep
decreases-sweep l = outside_count l.flow.labels
