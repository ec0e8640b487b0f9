-- All from the start on have the number.
use Rattle.std.proofs.Common.{◌≡◌, ℕ, ◌-◌, ◌<◌, ◌≤◌, length, get_or}
use Rattle.region_fronts.specs.declared.parts.Placed.{Placed}
use Rattle.region_fronts.proofs.parts.end_of.Given as goal

abbrev pub invariant-loop-end : goal.invariant-loop-end
invariant-loop-end l = record {
  ordered : l.start ≤ l.end;
  within : l.end ≤ length l.placed;
  inside : (k : ℕ) (d : Placed) → l.start ≤ k → k < l.end → (get_or l.placed k d).number ≡ l.number;
}

abbrev pub decreases-loop-end : goal.decreases-loop-end
decreases-loop-end l = length l.placed - l.end
