use Rattle.std.proofs.Common.{true, sym, subst}
use Rattle.scan_core.specs.contracts.played.Core.{the_view}
use Rattle.scan_core.specs.declared.event.Event.TheVariants.{Join}
use Rattle.scan_core.specs.Shown.{CoreView, IsAnswer, IsShownLive}
use Rattle.scan_core.proofs.Shows.{after_join, join_answer}
use Rattle.scan_core.proofs.played.Core.join.Goals as goal

pub returns : goal.returns
returns c =
    let here = the_view c.self.inside in
    let seat = c.args.seat in
    let other = c.args.other in
    let live = subst (λ (x : CoreView). IsShownLive x seat) (sym c.self.view_is) (c.is_live.ensures.0 c.if-not-is_live.false) in
    let live' = subst (λ (x : CoreView). IsShownLive x other) (sym c.self.view_is) (c.is_live-else-not-is_live.ensures.0 c.if-not-is_live-2.false) in
    subst (λ (x : CoreView). IsAnswer x (after_join here seat other c.index_mut-2.result.now) (Join seat other) true) c.self.view_is
    (join_answer here seat other c.index_mut-2.result.now live live' c.if-seat-other.false c.index_mut-2.ensures.value)
