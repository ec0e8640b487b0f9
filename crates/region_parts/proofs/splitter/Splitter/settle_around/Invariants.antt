-- The vertices at the places before are settled.
use Rattle.std.proofs.Common.{◌-◌, ◌≤◌, get_or}
use Rattle.arc_search.specs.Found.{IsNoneFound}
use Rattle.region_fronts.specs.Fronts.{list_at}
use Rattle.region_parts.specs.Hubs.{HaveBegun}
use Rattle.region_parts.specs.Passed.{ArePassed, HoldsBefore, list_around, place_in, side_around}
use Rattle.region_parts.specs.Split.{AreAtFront, GoesOnSettling, IsSearching, IsSettledIn}
use Rattle.region_parts.proofs.Passing.{most_around}
use Rattle.region_parts.proofs.splitter.Splitter.settle_around.Given as goal

abbrev pub invariant-places : goal.invariant-places
invariant-places l = record {
  searching : IsSearching (side_around l.around) l.region.graph.now l.region.flow.now l.region.t l.self;
  near : IsNoneFound l.region.graph.now.vertices l.self.near;
  goes_on : GoesOnSettling (side_around l.around) l.fn.self l.self;
  front : AreAtFront l.region.graph.now l.region.flow.now l.region.t l.fronts;
  begun : HaveBegun l.region.flow.now l.region.t (list_at l.fronts.lists (get_or l.region.flow.now.labels l.region.t 0)) l.self.hub;
  passed : ArePassed l.region.flow.now l.region.t l.fronts l.self l.fn.passed;
  settled : HoldsBefore (IsSettledIn (side_around l.around) l.region.graph.now l.region.flow.now l.region.t l.self)
      (list_around l.around l.region.flow.now l.region.t l.fronts l.self) l.place;
  onward : place_in l.fn.passed l.around ≤ l.place;
}

abbrev pub decreases-places : goal.decreases-places
decreases-places l = most_around l.around l.region.graph.now l.region.flow.now l.region.t l.fronts - l.place
