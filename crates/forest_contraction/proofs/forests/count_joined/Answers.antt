-- What joins the two in the middle joined them before.
use Rattle.std.proofs.Common.{◌≡◌, ◌+◌, ◌-◌, ◌/◌, ◌<◌, length, arith}
use Rattle.forest_contraction.proofs.Levels.{same_levels-set, joined_in}
use Rattle.forest_contraction.proofs.forests.count_joined.Goals as goal

pub loop-low-preserved-then-are_joined : goal.loop-low-preserved-then-are_joined
loop-low-preserved-then-are_joined c =
    let old = c.args.levels.now in
    let levels = c.loop-low.levels in
    let inv = c.loop-low.invariant in
    let m = c.loop-low.low + (c.loop-low.high - c.loop-low.low) / 2 in
    let x = c.index-levels-middle.result in
    let lm : m < length levels = omega (arith, c.loop-low-test.true, inv.ordered, inv.within, inv.same.count) in
    record {
      same = same_levels-set old levels m x c.are_joined.new.self inv.same lm c.are_joined.ensures.same;
      ordered = omega (arith, c.loop-low-test.true);
      within = inv.within;
      joined = λ k is.
          let here : k ≡ m = omega arith in
          rw here (joined_in old levels m x c.args.u c.args.v inv.same lm (c.are_joined.ensures.yes c.if-are_joined.true));
    }

pub loop-low-preserved : goal.loop-low-preserved
loop-low-preserved c =
    let old = c.args.levels.now in
    let levels = c.loop-low.levels in
    let inv = c.loop-low.invariant in
    let m = c.loop-low.low + (c.loop-low.high - c.loop-low.low) / 2 in
    let lm : m < length levels = omega (arith, c.loop-low-test.true, inv.ordered, inv.within, inv.same.count) in
    record {
      same = same_levels-set old levels m c.index-levels-middle.result c.are_joined.new.self inv.same lm c.are_joined.ensures.same;
      ordered = omega (arith, c.loop-low-test.true);
      within = omega (arith, c.loop-low-test.true, inv.within);
      joined = inv.joined;
    }
