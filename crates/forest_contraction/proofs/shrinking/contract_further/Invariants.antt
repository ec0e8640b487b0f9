-- What is left tells as much as the list.
use Rattle.std.proofs.Common.{ℕ, ◌≤◌, ◌^◌}
use Rattle.forest_contraction.specs.Left.{IsLesser}
use Rattle.forest_contraction.proofs.shrinking.contract_further.Given as goal

abbrev pub invariant-bounds : goal.invariant-bounds
invariant-bounds l = record {
  left : (whole : ℕ) → IsLesser whole l.fn.bound l.fn.list → IsLesser whole l.left.bound l.left.list;
  fits : l.left.bound ≤ 2 ^ 61;
}

abbrev pub decreases-bounds : goal.decreases-bounds
decreases-bounds l = l.left.bound
