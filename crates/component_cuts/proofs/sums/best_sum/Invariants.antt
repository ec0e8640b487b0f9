use Rattle.std.proofs.Common.{ℕ, ◌≡◌, ◌<◌, ◌≤◌, ◌-◌, true, min}
use Rattle.component_cuts.specs.Sums.{has_sum}
use Rattle.component_cuts.proofs.sums.best_sum.Given as goal

abbrev pub invariant-loop-sum : goal.invariant-loop-sum
invariant-loop-sum l = record {
  within : l.best < l.width;
  made : has_sum l.table l.width l.row l.best ≡ true;
  best : (other : ℕ) → other < l.sum → has_sum l.table l.width l.row other ≡ true → min other (l.width - 1 - other) ≤ min l.best (l.width - 1 - l.best);
}
