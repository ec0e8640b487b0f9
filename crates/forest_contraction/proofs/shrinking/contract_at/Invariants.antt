-- What is left tells as much as the list.
use Rattle.std.proofs.Common.{ℕ, ◌≤◌}
use Rattle.forest_contraction.specs.Left.{IsLesser}
use Rattle.forest_contraction.proofs.shrinking.contract_at.Given as goal

abbrev pub invariant-passes : goal.invariant-passes
invariant-passes l = record {
  left : (whole : ℕ) → IsLesser whole l.fn.bound l.fn.list → IsLesser whole l.low l.small;
  at_most : l.low ≤ l.fn.bound;
}

abbrev pub decreases-passes : goal.decreases-passes
decreases-passes l = l.small.vertices
