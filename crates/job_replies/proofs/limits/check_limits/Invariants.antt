-- The weight and the number of the edges after the insertions so far, each of which leaves the graph within the limits.
use Rattle.std.proofs.Common.{◌≡◌, ℕ, ◌≤◌, length, take}
use Rattle.std.specs.List.{sum_by}
use Rattle.cut_definitions.specs.Graph.{IsEdgeList}
use Rattle.job_replies.specs.GrownGraphs.{grown}
use Rattle.job_replies.proofs.limits.check_limits.Given as goal

abbrev pub invariant-limits : goal.invariant-limits
invariant-limits l = record {
  weight : l.weight ≡ sum_by (λ d. d.w) (grown l.list (take l.i l.insertions)).edges;
  edges : l.edges ≡ length (grown l.list (take l.i l.insertions)).edges;
  within : (k : ℕ) → k ≤ l.i → IsEdgeList (grown l.list (take k l.insertions));
}
