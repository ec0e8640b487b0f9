use Rattle.std.proofs.Common.{◌≡◌, ◌≤◌, subst, sym, ap, ◌∙◌, arith}
use Rattle.mark_board.specs.Seen.{SeatView, BoardView}
use Rattle.scan_core.specs.Machine.{times}
use Rattle.mark_board.proofs.Steps.{loads_allowed}
use Rattle.mark_board.proofs.board.Board.bound.Goals as goal

pub load-requires : goal.load-requires
load-requires c =
    let board = c.self.inside in
    let same : c.seat.inside.seat.table_id ≡ board.table.shared.table_id =
    ap (λ (x : SeatView). x.board.table) c.seat.view_is ∙ (ap (λ (b : BoardView). b.table) c.requires ∙ sym (ap (λ (b : BoardView). b.table) c.self.view_is)) in
    let sized = c.self.invariant.0 in
    (same, omega arith, loads_allowed board.table.shared.key board.table.shared.table_id.slots c.seat.inside.seat.id c.seat.inside.seat.me c.seat.invariant.1)

pub returns-clause-once : goal.returns-clause-once
returns-clause-once c = λ v. subst (λ (x : SeatView). times v x.won ≤ 1) c.seat.view_is (c.load.ensures.2.3 v)
