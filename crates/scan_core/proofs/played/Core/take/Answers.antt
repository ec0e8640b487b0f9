use Rattle.std.proofs.Common.{true, sym, subst, arith}
use Rattle.scan_core.specs.contracts.played.Core.{the_view}
use Rattle.scan_core.specs.declared.event.Event.TheVariants.{Take}
use Rattle.scan_core.specs.Shown.{CoreView, IsAnswer, IsShownLive}
use Rattle.scan_core.proofs.Shows.{after_take, take_answer}
use Rattle.scan_core.proofs.played.Core.take.Goals as goal

pub returns : goal.returns
returns c =
    let here = the_view c.self.inside in
    let seat = c.args.seat in
    let v = c.args.vertex in
    let live = subst (λ (x : CoreView). IsShownLive x seat) (sym c.self.view_is) (c.is_live.ensures.0 c.if-not-is_live.false) in
    let above = c.if-vertex-eq0.false in
    let below = c.if-vertex-n.false in
    let n = c.n.ensures.value in
    subst (λ (x : CoreView). IsAnswer x (after_take here v) (Take seat v) true) c.self.view_is
    (take_answer here seat v live (omega arith) (omega arith) c.self.invariant.4)
