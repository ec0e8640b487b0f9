use Rattle.std.proofs.Common.{◌≡◌, ◌≤◌, ◌-◌, length, drop}
use Rattle.cactus_walk.specs.Repeats.{ranges_kept}
use Rattle.cactus_walk.proofs.walk.repeats.next_kept.Given as goal

abbrev pub invariant-ends : goal.invariant-ends
invariant-ends l = record {
  within : l.at ≤ length l.borders;
  ranges : ranges_kept (drop l.at l.borders) (drop l.at l.repeats) ≡ ranges_kept (drop l.from l.borders) (drop l.from l.repeats);
}

abbrev pub decreases-ends : goal.decreases-ends
decreases-ends l = length l.borders - l.at
