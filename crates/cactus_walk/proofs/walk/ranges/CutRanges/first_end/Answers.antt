-- The end moves on while the range has less mass, and stays within its block.
use Rattle.std.proofs.Common.{◌≤◌, arith}
use Rattle.cactus_walk.specs.Weighing.{last_of}
use Rattle.cactus_walk.proofs.Weighing.{mass_rises, short_more, short_start}
use Rattle.cactus_walk.proofs.walk.ranges.CutRanges.first_end.Goals as goal

pub ends-init : goal.ends-init
ends-init c = record {
  last = c.last_of-last.ensures.is;
  there = c.last_of-last.ensures.there;
  before = c.mass_before-before.ensures;
  behind = omega (arith, c.max-end.ensures);
  short = short_start c.args.self.now c.args.mass c.args.start c.args.from c.max-end.result c.max-end.ensures c.requires.short;
}

pub overflow_sub-mass_before : goal.overflow_sub-mass_before
overflow_sub-mass_before c =
    let r = c.args.self.now in
    omega (arith, mass_rises r c.args.start c.args.start c.ends.end (omega arith) (omega (arith, c.ends.invariant.behind)) c.ends.invariant.behind (omega (arith, c.ends-test.true, c.ends.invariant.last)), c.mass_before.ensures, c.ends.invariant.before)

pub ends-preserved : goal.ends-preserved
ends-preserved c =
    let r = c.args.self.now in
    let within : c.ends.end ≤ last_of r c.args.start = omega (arith, c.ends-test.true, c.ends.invariant.last) in
    record {
      last = c.ends.invariant.last;
      there = c.ends.invariant.there;
      before = c.ends.invariant.before;
      behind = omega (arith, c.ends.invariant.behind);
      short = short_more r c.args.mass c.args.start c.ends.end within (omega (arith, c.if-mass_before-before.true, c.mass_before.ensures, c.ends.invariant.before)) c.ends.invariant.short;
    }
