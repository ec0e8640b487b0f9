-- One more level joins the two.
use Rattle.std.proofs.Common.{◌<◌, length, arith}
use Rattle.forest_contraction.proofs.Levels.{HaveJoined, have_joined-set}
use Rattle.forest_contraction.proofs.forests.join_levels.Goals as goal

pub loop-l-preserved : goal.loop-l-preserved
loop-l-preserved c =
    let levels = c.loop-l.levels in
    let inv = c.loop-l.invariant in
    let so : HaveJoined c.args.levels.now levels c.args.first c.loop-l.l c.args.u c.args.v = record { count = inv.count; inside = inv.inside; outside = inv.outside } in
    let lm : c.loop-l.l < length levels = omega (arith, c.loop-l-test.true, inv.count, c.requires.end) in
    let next = have_joined-set c.args.levels.now levels c.args.first c.loop-l.l c.args.u c.args.v c.index-levels-l.result c.join.new.self so c.loop-l.auto.l lm c.join.ensures in
    record { count = next.count; inside = next.inside; outside = next.outside }
