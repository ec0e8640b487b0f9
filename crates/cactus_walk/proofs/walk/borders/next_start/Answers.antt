use Rattle.std.proofs.Common.{◌+◌, ◌∙◌, arith, refl}
use Rattle.cactus_walk.proofs.Stepping.{end_passed}
use Rattle.cactus_walk.proofs.walk.borders.next_start.Goals as goal

pub ends-preserved : goal.ends-preserved
ends-preserved c = record {
  within = omega (arith, c.ends-test.true);
  ranges = end_passed c.args.borders.now c.ends.at (c.ends.at + 1) c.ends-test.true c.if-borders-at-eq0.true refl ∙ c.ends.invariant.ranges;
}
