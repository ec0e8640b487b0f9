use Rattle.std.proofs.Common.{◌≡◌, sym, ap, ◌∙◌, subst}
use Rattle.mark_board.specs.declared.rule.View.{View}
use Rattle.mark_board.specs.Seen.{SeatView, BoardView, fresh_seat, view_of}
use Rattle.mark_board.specs.Rule.{IsSplit, fresh_view}
use Rattle.mark_board.proofs.Pairs.{split_of}
use Rattle.mark_board.proofs.board.Board.split.Goals as goal

pub returns-clause-step : goal.returns-clause-step
returns-clause-step c =
    let old : View = view_of c.args.seat.now in
    let seat = c.bound.new.seat in
    let boards : seat.board ≡ c.args.self.now = ap (λ (x : SeatView). x.board) c.bound.ensures.seen ∙ c.requires in
    let same : view_of seat ≡ view_of c.fork.new.seat = sym (ap view_of c.fork.ensures.same) in
    let new : fresh_view (view_of seat) ≡ view_of c.fork.result = ap (λ (b : BoardView). view_of (fresh_seat b seat.seen)) boards ∙ sym (ap view_of c.fork.ensures.new) in
    subst (λ (z : View × View). IsSplit old z.0 z.1) (λ i. (same i, new i)) (split_of old (view_of seat) c.bound.ensures.step)
