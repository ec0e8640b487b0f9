use Rattle.std.proofs.Common.{◌≡◌, ◌<◌, length, sym, ap, ◌∙◌, subst, arith}
use Rattle.mark_board.specs.Seen.{SeatView, BoardView}
use Rattle.scan_core.specs.Machine.{IsSafeEdge}
use Rattle.mark_board.specs.Rule.{edge_count}
use Rattle.mark_board.proofs.Steps.{marks_allowed}
use Rattle.mark_board.proofs.board.Board.mark.Goals as goal

pub fetch_or-requires : goal.fetch_or-requires
fetch_or-requires c =
    let board = c.self.inside in
    let e = c.args.edge in
    let same : c.seat.inside.seat.table_id ≡ board.table.shared.table_id =
    ap (λ (x : SeatView). x.board.table) c.seat.view_is ∙ (ap (λ (b : BoardView). b.table) c.requires.seat ∙ sym (ap (λ (b : BoardView). b.table) c.self.view_is)) in
    let below : e < length board.table.shared.key.graph.value.edges = subst (λ (b : BoardView). e < length b.graph.edges) (sym c.self.view_is) c.requires.edge in
    let lt : e < edge_count c.seat.inside.seat.me.0.graph =
    subst (λ (x : SeatView). e < edge_count x.board.graph) (sym c.seat.view_is) (subst (λ (b : BoardView). e < edge_count b.graph) (sym c.requires.seat) c.requires.edge) in
    let sized = c.self.invariant.0 in
    let safe = subst (λ (x : SeatView). IsSafeEdge x.board.graph x.seen x.board.slack e) (sym c.seat.view_is)
    (subst (λ (b : BoardView). IsSafeEdge b.graph c.args.seat.now.seen b.slack e) (sym c.requires.seat) c.requires.safe) in
    (same, omega arith, marks_allowed board.table.shared.key board.table.shared.table_id.slots c.seat.inside.seat.id c.seat.inside.seat.me e c.seat.invariant.1 lt safe)
