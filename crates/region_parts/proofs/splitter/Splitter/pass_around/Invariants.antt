-- The vertices at the places before are listed.
use Rattle.std.proofs.Common.{◌-◌, ◌≤◌, length}
use Rattle.region_parts.specs.Passed.{ArePassed, IsPassed, list_around, place_in}
use Rattle.region_parts.specs.Split.{AreAtFront}
use Rattle.region_parts.proofs.splitter.Splitter.pass_around.Given as goal

abbrev pub invariant-places : goal.invariant-places
invariant-places l = record {
  front : AreAtFront l.region.graph.now l.region.flow.now l.region.t l.fronts;
  passed : ArePassed l.region.flow.now l.region.t l.fronts l.self l.fn.passed;
  further : IsPassed l.region.flow.now l.region.t l.self (list_around l.around l.region.flow.now l.region.t l.fronts l.self) l.place;
  onward : place_in l.fn.passed l.around ≤ l.place;
}

abbrev pub decreases-places : goal.decreases-places
decreases-places l = length (list_around l.around l.region.flow.now l.region.t l.fronts l.self) - l.place
