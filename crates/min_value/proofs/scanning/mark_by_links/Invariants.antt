use Rattle.std.proofs.Common.{◌≡◌, ◌≤◌, min}
use Rattle.cut_definitions.specs.Cuts.{has, value}
use Rattle.weighted_graph.specs.Marks.{MarksAreSafe}
use Rattle.capped_scan.specs.Scan.{StandsFor}
use Rattle.min_value.proofs.scanning.mark_by_links.Given as goal

abbrev pub invariant-loop : goal.invariant-loop
invariant-loop l = record {
  stands : StandsFor l.scan l.graph;
  at_most : l.least ≤ l.threshold.bound;
  at_least : min l.threshold.bound (value l.graph) ≤ l.least;
  edges : l.marks.edges ≡ l.fn.marks.edges;
  safe : MarksAreSafe l.graph (has l.marks.marked) l.least l.threshold.slack;
}
