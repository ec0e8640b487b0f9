use Rattle.std.proofs.Common.{ℕ, ◌≤◌, ◌^◌}
use Rattle.min_value.specs.Left.{IsToTell, count_left}
use Rattle.min_value.proofs.scans.value_of_shrunk.Given as goal

abbrev pub invariant-scans : goal.invariant-scans
invariant-scans g l = record {
  small : l.best ≤ 2 ^ 62;
  told : (whole : ℕ) → IsToTell whole l.fn.shrunk.best l.fn.shrunk.smaller → IsToTell whole l.best l.smaller;
}

abbrev pub decreases-scans : goal.decreases-scans
decreases-scans g l = count_left l.smaller
