use Rattle.std.proofs.Common.{◌≡◌, ◌≤◌, ◌-◌, length, drop}
use Rattle.rooted_cactus.specs.Borders.{ranges_between}
use Rattle.cactus_walk.proofs.walk.borders.next_start.Given as goal

abbrev pub invariant-ends : goal.invariant-ends
invariant-ends l = record {
  within : l.at ≤ length l.borders;
  ranges : ranges_between (drop l.at l.borders) ≡ ranges_between (drop l.from l.borders);
}

abbrev pub decreases-ends : goal.decreases-ends
decreases-ends l = length l.borders - l.at
