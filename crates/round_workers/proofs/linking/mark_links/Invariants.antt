use Rattle.std.proofs.Common.{◌≡◌, ℕ, ◌+◌, ◌<◌, true, false, get_or}
use Rattle.cut_definitions.specs.Cuts.{has}
use Rattle.weighted_graph.specs.Rows.{row_of, no_arc}
use Rattle.weighted_graph.specs.Marks.{MarksAreSafe}
use Rattle.capped_scan.specs.Scan.{waits, rank}
use Rattle.round_workers.specs.Round.{AreKept, SomeIsMarked}
use Rattle.round_workers.proofs.linking.mark_links.Given as goal

abbrev pub invariant-loop-arc : goal.invariant-loop-arc
invariant-loop-arc l = record {
  edges : l.marks.edges ≡ l.fn.marks.edges;
  kept : AreKept l.fn.marks l.marks;
  safe : MarksAreSafe l.graph (has l.marks.marked) l.bound l.slack;
  some : l.some ≡ true → SomeIsMarked l.marks;
  below : l.some ≡ false → (k : ℕ) → k < l.arc-index → waits l.scan (get_or (row_of l.graph l.vertex) k no_arc).to ≡ true →
      rank l.graph l.scan (get_or (row_of l.graph l.vertex) k no_arc).to < l.bound + l.slack;
}
