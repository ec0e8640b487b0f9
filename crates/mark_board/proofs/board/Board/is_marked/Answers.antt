use Rattle.std.specs.Prelude.{◌==◌, Contains}
use Rattle.std.proofs.lemmas.Nat.Bits.{shr_and_one}
use Rattle.std.proofs.Common.{◌≡◌, ◌<◌, ◌+◌, ◌/◌, ◌%◌, ℕ, Bool, true, length, refl, sym, ap, ◌∙◌, subst, arith}
use Rattle.mark_board.specs.Seen.{SeatView, BoardView, seat_view, view_of}
use Rattle.mark_board.specs.declared.rule.View.{View}
use Rattle.mark_board.specs.Words.{bit_of}
use Rattle.mark_board.specs.Rule.{edge_count, IsSafeNow, IsLook}
use Rattle.mark_board.proofs.Steps.{looks_allowed}
use Rattle.mark_board.proofs.Takes.{lives}
use Rattle.mark_board.proofs.board.Board.is_marked.Goals as goal

pub load-word-requires : goal.load-word-requires
load-word-requires c =
    let board = c.self.inside in
    let same : c.seat.inside.seat.table_id ≡ board.table.shared.table_id =
    ap (λ (x : SeatView). x.board.table) c.seat.view_is ∙ (ap (λ (b : BoardView). b.table) c.requires.seat ∙ sym (ap (λ (b : BoardView). b.table) c.self.view_is)) in
    let lt : c.args.edge < length board.table.shared.key.graph.value.edges = subst (λ (b : BoardView). c.args.edge < length b.graph.edges) (sym c.self.view_is) c.requires.edge in
    let sized = c.self.invariant.0 in
    (same, omega arith, looks_allowed board.table.shared.key board.table.shared.table_id.slots c.seat.inside.seat.id c.seat.inside.seat.me (c.args.edge / 64 + 1) c.seat.invariant.1)

pub returns-clause-safe : goal.returns-clause-safe
returns-clause-safe c = λ is.
    let lt : c.args.edge < edge_count c.seat.inside.seat.me.0.graph =
    subst (λ (x : SeatView). c.args.edge < edge_count x.board.graph) (sym c.seat.view_is) (subst (λ (b : BoardView). c.args.edge < edge_count b.graph) (sym c.requires.seat) c.requires.edge) in
    let h = c.load-word.ensures.2.1 c.args.edge refl lt (subst (λ (n : ℕ). (n == 1) ≡ true) (shr_and_one c.load-word.result (c.args.edge % 64)) is) in
    subst (λ (x : SeatView). IsSafeNow (view_of x) c.args.edge) c.seat.view_is h

pub returns-clause-own : goal.returns-clause-own
returns-clause-own c = λ has.
    let there = c.load-word.ensures.2.2 c.args.edge refl (subst (λ (x : SeatView). Contains x.own c.args.edge) (sym c.seat.view_is) has) in
    ap (λ (n : ℕ). n == 1) (shr_and_one c.load-word.result (c.args.edge % 64)) ∙ there

pub returns-clause-look : goal.returns-clause-look
returns-clause-look c =
    let me = c.seat.inside.seat.me in
    let lt : c.args.edge < edge_count me.0.graph =
    subst (λ (x : SeatView). c.args.edge < edge_count x.board.graph) (sym c.seat.view_is) (subst (λ (b : BoardView). c.args.edge < edge_count b.graph) (sym c.requires.seat) c.requires.edge) in
    let old : me.0 ≡ view_of c.args.seat.now = lives c.seat.inside.seat.table_id me.0 c.seat.invariant.1 ∙ ap view_of c.seat.view_is in
    let same = c.load-word.ensures.2.0 in
    let new : c.load-word.new.seat.me.0 ≡ view_of (seat_view c.load-word.new.seat.table_id c.load-word.new.seat.me.0) =
    lives c.load-word.new.seat.table_id c.load-word.new.seat.me.0 (ap (λ m. m.0.live) same ∙ c.seat.invariant.1) in
    let answer : bit_of c.load-word.result c.args.edge ≡ _ = ap (λ (n : ℕ). n == 1) (sym (shr_and_one c.load-word.result (c.args.edge % 64))) in
    subst (λ (z : View × View × Bool). IsLook z.0 z.1 c.args.edge z.2) (λ i. (old i, new i, answer i)) (c.load-word.ensures.2.3 c.args.edge refl lt)

pub returns-clause-step : goal.returns-clause-step
returns-clause-step c = (returns-clause-look c).step
