use Rattle.std.proofs.Common.{true, sym, subst, arith}
use Rattle.scan_core.specs.contracts.played.Core.{the_view}
use Rattle.scan_core.specs.declared.event.Event.TheVariants.{Mark}
use Rattle.scan_core.specs.Shown.{CoreView, IsAnswer, IsShownLive, IsSafeHere}
use Rattle.scan_core.proofs.Shows.{after_mark, mark_answer}
use Rattle.scan_core.proofs.played.Core.mark.Goals as goal

pub returns : goal.returns
returns c =
    let here = the_view c.self.inside in
    let seat = c.args.seat in
    let edge = c.args.edge in
    let live = subst (λ (x : CoreView). IsShownLive x seat) (sym c.self.view_is) (c.is_live.ensures.0 c.if-not-is_live.false) in
    let safe = subst (λ (x : CoreView). IsSafeHere x seat edge) (sym c.self.view_is) (c.is_safe.ensures.0 c.if-not-is_safe.false) in
    let few = c.edges.ensures in
    let below = c.if-edge-edges.false in
    subst (λ (x : CoreView). IsAnswer x (after_mark here edge) (Mark seat edge) true) c.self.view_is
    (mark_answer here seat edge live (omega arith) c.self.invariant.3 safe)
