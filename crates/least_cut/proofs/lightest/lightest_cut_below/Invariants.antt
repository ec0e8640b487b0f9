-- What the sweep knows so far.
use Rattle.std.proofs.Common.{◌≡◌, get_or}
use Rattle.region_flow.specs.Regions.{IsRegionFlow}
use Rattle.least_cut.specs.Front.{IsPassed}
use Rattle.least_cut.specs.Lightest.{IsFoundBelow, limit_of}
use Rattle.least_cut.specs.Sweep.{IsSwept}
use Rattle.least_cut.proofs.Sweeping.{outside_count}
use Rattle.least_cut.proofs.lightest.lightest_cut_below.Given as goal

abbrev pub invariant-sweep : goal.invariant-sweep
invariant-sweep l = record {
  flow : IsRegionFlow l.graph l.flow;
  first : get_or l.flow.labels 1 0 ≡ 0;
  vertices : l.front.vertices ≡ l.graph.vertices;
  passed : IsPassed l.flow.labels l.front.passed;
  found : IsFoundBelow l.graph l.bound l.best;
  swept : IsSwept l.graph l.bound l.flow.labels (limit_of l.best l.bound);
}

abbrev pub decreases-sweep : goal.decreases-sweep
decreases-sweep l = outside_count l.flow.labels
