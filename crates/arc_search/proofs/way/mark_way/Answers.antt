-- One vertex more is marked, and the way goes up.
use Rattle.std.proofs.Common.{◌≡◌, ℕ, ◌-◌, ◌≤◌, subst, arith}
use Rattle.arc_search.specs.Way.{IsUp}
use Rattle.arc_search.proofs.Climbing.{up_more}
use Rattle.arc_search.proofs.Touching.{way_more}
use Rattle.arc_search.proofs.way.mark_way.Goals as goal

pub returns-in_err-mark-clause-way : goal.returns-in_err-mark-clause-way
returns-in_err-mark-clause-way c =
    let inv = c.loop-place.invariant in
    way_more c.args.order.now c.args.parents.now (c.args.count - 1) c.loop-place.place c.args.marks.now c.loop-place.marks c.mark.new.marks c.args.touched.now.items c.loop-place.touched.items
    c.mark.new.touched.items inv.way inv.up c.mark.ensures.touches

pub loop-place-preserved : goal.loop-place-preserved
loop-place-preserved c =
    let inv = c.loop-place.invariant in
    let place = c.loop-place.place in
    let one : 1 ≤ place = omega (arith, c.loop-place-test.true) in
    record {
      way = way_more c.args.order.now c.args.parents.now (c.args.count - 1) place c.args.marks.now c.loop-place.marks c.mark.new.marks c.args.touched.now.items c.loop-place.touched.items
          c.mark.new.touched.items inv.way inv.up c.mark.ensures.touches;
      up = up_more c.args.parents.now (c.args.count - 1) place inv.up one;
      within = omega (arith, c.requires.earlier place one inv.within, inv.within);
    }

pub returns-clause-way : goal.returns-clause-way
returns-clause-way c =
    let inv = c.loop-place.invariant in
    let first : c.loop-place.place ≡ 0 = omega (arith, c.loop-place-test.false) in
    way_more c.args.order.now c.args.parents.now (c.args.count - 1) 0 c.args.marks.now c.loop-place.marks c.mark-2.new.marks c.args.touched.now.items c.loop-place.touched.items
    c.mark-2.new.touched.items inv.way (subst (λ (k : ℕ). IsUp c.args.parents.now (c.args.count - 1) k) first inv.up) c.mark-2.ensures.touches
