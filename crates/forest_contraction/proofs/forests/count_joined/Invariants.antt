-- The level before the lower end joins the two.
use Rattle.std.proofs.Common.{◌≡◌, ℕ, ◌+◌, ◌-◌, ◌≤◌, length}
use Rattle.vertex_classes.specs.Classes.{AreJoined}
use Rattle.forest_contraction.specs.Forests.{level, HasSameLevels}
use Rattle.forest_contraction.proofs.forests.count_joined.Given as goal

abbrev pub invariant-loop-low : goal.invariant-loop-low
invariant-loop-low l = record {
  same : HasSameLevels l.fn.levels l.levels;
  ordered : l.low ≤ l.high;
  within : l.high ≤ length l.fn.levels;
  joined : (k : ℕ) → k + 1 ≡ l.low → AreJoined (level l.fn.levels k) l.fn.u l.fn.v;
}

abbrev pub decreases-loop-low : goal.decreases-loop-low
decreases-loop-low l = l.high - l.low
