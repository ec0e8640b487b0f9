-- What the sweep knows so far.
use Rattle.std.proofs.Common.{◌≡◌, ◌≤◌, length, get_or}
use Rattle.region_flow.specs.Regions.{IsRegionFlow}
use Rattle.least_cut.specs.Front.{IsPassed}
use Rattle.least_cut.proofs.CutLists.{AreKept}
use Rattle.least_cut.proofs.Sweeping.{outside_count}
use Rattle.least_cut.proofs.several.cuts_below.Given as goal

abbrev pub invariant-sweep : goal.invariant-sweep
invariant-sweep l = record {
  flow : IsRegionFlow l.graph l.flow;
  first : get_or l.flow.labels 1 0 ≡ 0;
  vertices : l.front.vertices ≡ l.graph.vertices;
  passed : IsPassed l.flow.labels l.front.passed;
  few : length l.others.items ≤ l.most;
  kept : AreKept l.graph l.bound l.flow.labels l.best l.others.items;
}

abbrev pub decreases-sweep : goal.decreases-sweep
decreases-sweep l = outside_count l.flow.labels
