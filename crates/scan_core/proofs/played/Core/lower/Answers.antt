use Rattle.std.proofs.Common.{◌≡◌, ◌-◌, ◌∙◌, ℕ, min, true, set, sym, ap, subst}
use Rattle.cut_definitions.specs.Cuts.{has}
use Rattle.cut_definitions.specs.Weight.{weight}
use Rattle.scan_core.specs.contracts.played.Core.{the_view}
use Rattle.scan_core.specs.declared.event.Event.TheVariants.{Lower}
use Rattle.scan_core.specs.Shown.{CoreView, IsAnswer, IsShownLive}
use Rattle.scan_core.proofs.Shows.{sees_shown, lower_answer}
use Rattle.scan_core.proofs.played.Core.lower.Goals as goal

pub returns : goal.returns
returns c =
    let here = the_view c.self.inside in
    let seat = c.args.seat in
    let side = c.args.side.now in
    let r = c.index_mut.result.now in
    let live = subst (λ (x : CoreView). IsShownLive x seat) (sym c.self.view_is) (c.is_live.ensures.0 c.if-not-is_live.false) in
    let over = sym c.n.ensures.value ∙ (c.if-n.false ∙ c.n-else-not-is_live.ensures.value) in
    let cut = c.is_cut.ensures.0 c.if-not-is_cut.false in
    let low : c.min-self-inside.result ≡ min here.bound (weight here.graph (has side.members)) = c.min-self-inside.ensures ∙ ap (min here.bound) c.weight_of.ensures in
    subst (λ (b : ℕ). IsAnswer c.args.self.now (record here { bound = b; seats = set here.seats (seat - 1) (sees_shown r b) }) (Lower seat side) true) (sym low)
    (subst (λ (x : CoreView). IsAnswer x (record here { bound = min here.bound (weight here.graph (has side.members)); seats = set here.seats (seat - 1) (sees_shown r (min here.bound (weight here.graph (has side.members)))) }) (Lower seat side) true) c.self.view_is
    (lower_answer here seat side r c.self.invariant.0.is_graph live over cut c.index_mut.ensures.value))
