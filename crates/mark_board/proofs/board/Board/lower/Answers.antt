use Rattle.std.proofs.Common.{◌≡◌, sym, ap, ◌∙◌, subst, arith}
use Rattle.mark_board.specs.Seen.{SeatView, BoardView}
use Rattle.cut_definitions.specs.Safe.{IsFair}
use Rattle.mark_board.proofs.Steps.{lowers_allowed}
use Rattle.mark_board.proofs.board.Board.lower.Goals as goal

pub fetch_min-found-requires : goal.fetch_min-found-requires
fetch_min-found-requires c =
    let board = c.self.inside in
    let same : c.seat.inside.seat.table_id ≡ board.table.shared.table_id =
    ap (λ (x : SeatView). x.board.table) c.seat.view_is ∙ (ap (λ (b : BoardView). b.table) c.requires.seat ∙ sym (ap (λ (b : BoardView). b.table) c.self.view_is)) in
    let sized = c.self.invariant.0 in
    let fair : IsFair c.seat.inside.seat.me.0.graph c.args.weight =
    subst (λ (x : SeatView). IsFair x.board.graph c.args.weight) (sym c.seat.view_is) (subst (λ (b : BoardView). IsFair b.graph c.args.weight) (sym c.requires.seat) c.requires.fair) in
    (same, omega arith, lowers_allowed board.table.shared.key board.table.shared.table_id.slots c.seat.inside.seat.id c.seat.inside.seat.me c.args.weight c.seat.invariant.1 fair)
