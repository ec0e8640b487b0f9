-- One number more is laid out.
use Rattle.region_fronts.proofs.Runs.{runs_more}
use Rattle.region_fronts.proofs.parts.lay_out.Goals as goal

pub loop-before-preserved : goal.loop-before-preserved
loop-before-preserved c =
    let e = c.end_of-end.ensures in
    rw (c.in_ok-push.ensures.items, c.in_ok-push-2.ensures.items)
    (runs_more c.args.placed.now c.loop-before.before c.loop-before.place c.end_of-end.result c.loop-before.starts.items c.loop-before.ends.items c.requires.ascends c.loop-before.invariant
    record { ordered = e.ordered; within = e.within; inside = e.inside; next = e.next })
