-- The flow, with the labels that it had.
use Rattle.std.proofs.Common.{ℕ, ◌≡◌, ◌≢◌, ◌≤◌, ◌-◌, get_or}
use Rattle.region_flow.specs.Regions.{IsRegionFlow}
use Rattle.region_flow.proofs.regions.RegionFlow.flow_within.Given as goal

abbrev pub invariant-loop-self : goal.invariant-loop-self
invariant-loop-self l = record {
  flow : IsRegionFlow l.graph l.self;
  others : (v : ℕ) → v ≢ l.t → get_or l.self.feed v 0 ≤ get_or l.initial.self.feed v 0;
  labels : l.self.labels ≡ l.initial.self.labels;
}

abbrev pub decreases-loop-self : goal.decreases-loop-self
decreases-loop-self l = l.stop - get_or l.self.feed l.t 0
