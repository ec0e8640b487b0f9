use Rattle.std.proofs.Common.{◌≡◌, ◌<◌, ◌≤◌, ℕ, List, true, length, sym, ap, ◌∙◌, subst, arith}
use Rattle.std.specs.Prelude.{Contains}
use Rattle.std.specs.Slots.{slots_items}
use Rattle.cut_definitions.specs.Safe.{IsFair}
use Rattle.cut_definitions.specs.Cuts.{has}
use Rattle.scan_core.specs.Machine.{IsSafeEdge}
use Rattle.mark_board.specs.Seen.{SeatView, BoardView, seat_view}
use Rattle.mark_board.specs.Marks.{MarkList}
use Rattle.mark_board.specs.Words.{is_flagged}
use Rattle.mark_board.specs.Rule.{edge_count}
use Rattle.mark_board.proofs.MarkBits.{has-marked}
use Rattle.mark_board.proofs.Closing.{Closing, closes}
use Rattle.mark_board.proofs.board.Board.close.Goals as goal

pub free-requires : goal.free-requires
free-requires c = let counts = c.close_with-closed.ensures.counts in let none = c.self.invariant.2 in λ k lt. absurd (omega arith)

abbrev words : goal.After-free → List ℕ
words c = slots_items c.close_with-closed.result.words

what : (c : goal.After-free) → Closing c.self.inside.table.shared.key c.seat.inside.seat.me.0 c.word-bound.result (words c)
what c = closes c.self.inside.table.shared.key _ c.seat.inside.seat.me.0 (words c) _ c.word-bound.result c.seat.invariant.1 c.close_with-closed.ensures.values.2 c.word-bound.ensures

board_is : (c : goal.After-free) → (seat_view c.seat.inside.seat.table_id c.seat.inside.seat.me.0).board ≡ c.args.self
board_is c = ap (λ (x : SeatView). x.board) c.seat.view_is ∙ c.requires

flags : (c : goal.After-free) (e : ℕ) → e < length c.args.self.graph.edges → has c.copy_from.new.self.marked e ≡ is_flagged (words c) e
flags c e lt =
    let edges : c.self.inside.marks.edges ≡ length c.args.self.graph.edges = c.self.invariant.1 ∙ ap (λ (b : BoardView). length b.graph.edges) c.self.view_is in
    ap (λ (m : MarkList). has m.marked e) c.copy_from.ensures ∙ has-marked c.self.inside.marks.edges (is_flagged (words c)) e (omega arith)

pub returns-clause-fair : goal.returns-clause-fair
returns-clause-fair c = subst (λ (b : BoardView). IsFair b.graph c.word-bound.result) (board_is c) (what c).fair

pub returns-clause-at_most : goal.returns-clause-at_most
returns-clause-at_most c =
    let h = what c in (
      subst (λ (b : BoardView). c.word-bound.result ≤ b.opening) (board_is c) h.lowered,
      subst (λ (x : SeatView). c.word-bound.result ≤ x.seen) c.seat.view_is h.above,
    )

pub returns-clause-safe : goal.returns-clause-safe
returns-clause-safe c = λ e lt is.
    let safe = subst (λ (b : BoardView). (k : ℕ) → k < edge_count b.graph → is_flagged (words c) k ≡ true → IsSafeEdge b.graph c.word-bound.result b.slack k) (board_is c) (what c).safe in
    safe e lt (sym (flags c e lt) ∙ is)

pub returns-clause-own : goal.returns-clause-own
returns-clause-own c = λ e own.
    let there = (what c).own e (subst (λ (x : SeatView). Contains x.own e) (sym c.seat.view_is) own) in
    let lt : e < length c.args.self.graph.edges = subst (λ (b : BoardView). e < edge_count b.graph) (board_is c) there.0 in
    flags c e lt ∙ there.1
