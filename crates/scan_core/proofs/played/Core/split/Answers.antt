use Rattle.std.proofs.Common.{◌≡◌, ◌-◌, ◌++◌, [], ◌∷◌, List, true, get_or, set, sym, subst, arith}
use Rattle.scan_core.specs.contracts.played.Core.{the_view}
use Rattle.scan_core.specs.declared.event.Event.TheVariants.{Split}
use Rattle.scan_core.specs.declared.played.CoreSeat.{CoreSeat}
use Rattle.scan_core.specs.Shown.{CoreView, IsAnswer, IsShownLive}
use Rattle.scan_core.proofs.Shows.{sees_shown, new_shown, after_split, split_answer}
use Rattle.scan_core.proofs.played.Core.split.Goals as goal

pub returns-clause-answer : goal.returns-clause-answer
returns-clause-answer c =
    let here = the_view c.self.inside in
    let seat = c.args.seat in
    let r = c.index_mut.result.now in
    let live = subst (λ (x : CoreView). IsShownLive x seat) (sym c.self.view_is) (c.is_live.ensures.0 c.if-not-is_live.false) in
    let items : c.push.new.self.items ≡ here.seats ++ new_shown here.bound ∷ [] = c.in_ok-push.ensures.items in
    let few = c.if-len-ge1000.false in
    let len = c.len.ensures in
    let items_are = c.self.inside.seats.ok.0 in
    subst (λ (l : List CoreSeat). IsAnswer c.args.self.now (record here { seats = set l (seat - 1) (sees_shown r here.bound) }) (Split seat) true) (sym items)
    (subst (λ (x : CoreView). IsAnswer x (after_split here seat r) (Split seat) true) c.self.view_is
    (split_answer here seat r live (omega arith) (subst (λ (l : List CoreSeat). r ≡ get_or l (seat - 1) r) items c.index_mut.ensures.value)))
