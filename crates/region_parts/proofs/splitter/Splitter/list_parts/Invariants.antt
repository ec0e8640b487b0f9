-- The lists as they are between two hubs, and how much is left.
use Rattle.std.proofs.Common.{◌+◌, ◌≤◌}
use Rattle.arc_search.specs.Found.{IsNoneFound}
use Rattle.region_parts.specs.Passed.{ArePassed}
use Rattle.region_parts.specs.Split.{AreAtFront, IsBetween}
use Rattle.region_parts.proofs.BetweenLemmas.{left_over}
use Rattle.region_parts.proofs.splitter.Splitter.list_parts.Given as goal

abbrev pub invariant-hubs : goal.invariant-hubs
invariant-hubs l = record {
  between : IsBetween l.region.graph.now l.region.flow.now l.region.t l.self;
  near : IsNoneFound l.region.graph.now.vertices l.self.near;
  front : AreAtFront l.region.graph.now l.region.flow.now l.region.t l.fronts;
  some : 1 ≤ l.self.inner.count + l.self.outer.count;
  passed : ArePassed l.region.flow.now l.region.t l.fronts l.self l.passed;
}

abbrev pub decreases-hubs : goal.decreases-hubs
decreases-hubs l = left_over l.region.graph.now.vertices l.self
