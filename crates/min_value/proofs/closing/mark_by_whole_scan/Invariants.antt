use Rattle.std.proofs.Common.{◌≡◌, true, false}
use Rattle.cut_definitions.specs.Cuts.{has}
use Rattle.weighted_graph.specs.Marks.{MarksAreSafe}
use Rattle.capped_scan.specs.Scan.{StandsFor}
use Rattle.round_workers.specs.Round.{SomeIsMarked}
use Rattle.min_value.proofs.Light.{IsWhole, IsBelowValue, unscanned}
use Rattle.min_value.proofs.closing.mark_by_whole_scan.Given as goal

abbrev pub invariant-steps : goal.invariant-steps
invariant-steps l = record {
  stands : StandsFor l.scan l.graph;
  whole : IsWhole l.graph l.scan l.value;
  edges : l.marks.edges ≡ l.fn.marks.edges;
  safe : MarksAreSafe l.graph (has l.marks.marked) l.value 1;
  marked : l.some ≡ true → SomeIsMarked l.marks;
  below : l.some ≡ false → IsBelowValue l.graph l.scan l.value;
}

abbrev pub decreases-steps : goal.decreases-steps
decreases-steps l = unscanned (has l.scan.order) l.graph.vertices
