use Rattle.std.proofs.Common.{true, sym, subst}
use Rattle.scan_core.specs.contracts.played.Core.{the_view}
use Rattle.scan_core.specs.declared.event.Event.TheVariants.{Load}
use Rattle.scan_core.specs.Shown.{CoreView, IsAnswer, IsShownLive}
use Rattle.scan_core.proofs.Shows.{after_load, load_answer}
use Rattle.scan_core.proofs.played.Core.load.Goals as goal

pub returns : goal.returns
returns c =
    let here = the_view c.self.inside in
    let seat = c.args.seat in
    let live = subst (λ (x : CoreView). IsShownLive x seat) (sym c.self.view_is) (c.is_live.ensures.0 c.if-not-is_live.false) in
    subst (λ (x : CoreView). IsAnswer x (after_load here seat c.index_mut.result.now) (Load seat) true) c.self.view_is
    (load_answer here seat c.index_mut.result.now live c.index_mut.ensures.value)
