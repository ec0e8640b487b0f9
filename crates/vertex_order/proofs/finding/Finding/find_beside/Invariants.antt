-- What was found so far, and no vertex fewer.
use Rattle.std.proofs.Common.{ℕ, ◌<◌, ◌≤◌, length, get_or}
use Rattle.weighted_graph.specs.Rows.{no_arc}
use Rattle.vertex_order.specs.Finding.{IsFinding, number_of}
use Rattle.vertex_order.proofs.finding.Finding.find_beside.Given as goal

abbrev pub invariant-loop-arc : goal.invariant-loop-arc
invariant-loop-arc l = record {
  finding : IsFinding l.graph.vertices l.self;
  numbered : (j : ℕ) → j < l.arc-index → 1 ≤ number_of l.self (get_or l.arc-items j no_arc).to;
  more : length l.fn.self.order.items ≤ length l.self.order.items;
}
