use Rattle.std.proofs.Common.{◌≡◌, sym, ap, ◌∙◌, arith}
use Rattle.mark_board.specs.Seen.{SeatView, BoardView}
use Rattle.mark_board.proofs.Steps.{splits_allowed}
use Rattle.mark_board.proofs.board.Board.fork.Goals as goal

pub split_seat-seat-requires : goal.split_seat-seat-requires
split_seat-seat-requires c =
    let board = c.self.inside in
    let same : c.seat.inside.seat.table_id ≡ board.table.shared.table_id =
    ap (λ (x : SeatView). x.board.table) c.seat.view_is ∙ (ap (λ (b : BoardView). b.table) c.requires ∙ sym (ap (λ (b : BoardView). b.table) c.self.view_is)) in
    let sized = c.self.invariant.0 in
    (same, omega arith, splits_allowed board.table.shared.key c.seat.inside.seat.id c.seat.inside.seat.me.0 c.seat.invariant.1)
