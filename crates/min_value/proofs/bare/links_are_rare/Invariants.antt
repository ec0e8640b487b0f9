use Rattle.std.proofs.Common.{◌≤◌}
use Rattle.capped_scan.specs.Scan.{StandsFor}
use Rattle.min_value.proofs.bare.links_are_rare.Given as goal

abbrev pub invariant-loop : goal.invariant-loop
invariant-loop l = record {
  stands : StandsFor l.scan l.graph;
  few : l.joined ≤ l.counter;
}
