use Rattle.std.proofs.Common.{◌≡◌, ◌+◌, ◌-◌, ◌<◌, ◌∙◌, ℕ, List, ap, sym, subst, length, arith}
use Rattle.std.proofs.lemmas.List.{get_or_read}
use Rattle.std.specs.Prelude.{◌↔◌, IsTrue, not}
use Rattle.cut_definitions.specs.Cuts.{has, value}
use Rattle.scan_core.specs.contracts.played.Core.{the_view}
use Rattle.scan_core.specs.declared.played.CoreSeat.{CoreSeat}
use Rattle.scan_core.specs.Shown.{CoreView, IsShownLive, IsSafeHere, shown_seat, no_seat}
use Rattle.scan_core.proofs.Shows.{safe_by}
use Rattle.scan_core.proofs.played.Core.is_safe.Goals as goal

pub returns : goal.returns
returns c =
    let here = the_view c.self.inside in
    let seat = c.args.seat in
    let edge = c.args.edge in
    let live = subst (λ (x : CoreView). IsShownLive x seat) (sym c.self.view_is) c.requires.live in
    let within = subst (λ (x : CoreView). edge < length x.graph.edges) (sym c.self.view_is) c.requires.edge in
    let r : c.index.result.now ≡ shown_seat here seat = get_or_read c.self.inside.seats.items (seat - 1) c.index.result.now live.made c.index.ensures no_seat in
    let seen : c.index.result.now.seen ≡ (shown_seat here seat).seen = ap (λ (s : CoreSeat). s.seen) r in
    let worth = c.self.invariant.1 in
    let below = c.if-self-seen.false in
    let low : value here.graph < (shown_seat here seat).seen + here.slack = omega arith in
    let found : c.contains.result ≡ has c.self.inside.parted.items edge = c.contains.ensures.value ∙ ap (λ (l : List ℕ). has l edge) c.deref.ensures.value in
    subst (λ (x : CoreView). IsTrue (not c.contains.result) ↔ IsSafeHere x seat edge) c.self.view_is
    (safe_by here.graph c.self.inside.parted.items (shown_seat here seat).seen here.slack edge c.contains.result c.self.invariant.2 within found low)
