use Rattle.std.proofs.Common.{◌≡◌, min, sym, ap, ◌∙◌, subst, arith}
use Rattle.atomic_table.specs.Table.{Me}
use Rattle.atomic_table.specs.Seated.{TableId}
use Rattle.mark_board.specs.declared.rule.View.{View}
use Rattle.mark_board.specs.Words.{words_for}
use Rattle.mark_board.specs.Rule.{edge_count}
use Rattle.cut_definitions.specs.Safe.{IsFair}
use Rattle.cut_definitions.proofs.SafeLaws.{IsFair-min}
use Rattle.mark_board.specs.Seen.{SeatView, BoardView}
use Rattle.mark_board.proofs.Steps.{joins_allowed}
use Rattle.mark_board.proofs.board.Board.merge.Goals as goal

pub join_seat-requires : goal.join_seat-requires
join_seat-requires c =
    let board = c.self.inside in
    let same : c.seat.inside.seat.table_id ≡ board.table.shared.table_id =
    ap (λ (x : SeatView). x.board.table) c.seat.view_is ∙ (ap (λ (b : BoardView). b.table) c.requires.seat ∙ sym (ap (λ (b : BoardView). b.table) c.self.view_is)) in
    let same' : c.other.inside.seat.table_id ≡ board.table.shared.table_id =
    ap (λ (x : SeatView). x.board.table) c.other.view_is ∙ (ap (λ (b : BoardView). b.table) c.requires.other ∙ sym (ap (λ (b : BoardView). b.table) c.self.view_is)) in
    let sized = c.self.invariant.0 in
    (same, same', c.other.invariant.0, omega arith, joins_allowed board.table.shared.key c.seat.inside.seat.id c.seat.inside.seat.me.0 c.other.inside.seat.id c.other.inside.seat.me.0 c.seat.invariant.1 c.other.invariant.1)

pub returns-clause-fair : goal.returns-clause-fair
returns-clause-fair c = (
  subst (λ (b : BoardView). IsFair b.graph c.args.seat.now.seen) c.requires.seat (subst (λ (x : SeatView). IsFair x.board.graph x.seen) c.seat.view_is c.seat.invariant.3),
  subst (λ (b : BoardView). IsFair b.graph c.args.other.seen) c.requires.other (subst (λ (x : SeatView). IsFair x.board.graph x.seen) c.other.view_is c.other.invariant.3),
)

pub invariant_of-seat : goal.invariant_of-seat
invariant_of-seat c =
    let i = c.seat.invariant in
    let v = c.seat.inside.seat.me.0 in
    let w = c.other.inside.seat.me.0 in
    let graphs : w.graph ≡ v.graph =
    ap (λ (x : SeatView). x.board.graph) c.other.view_is
    ∙ (ap (λ (b : BoardView). b.graph) (c.requires.other ∙ sym c.requires.seat) ∙ sym (ap (λ (x : SeatView). x.board.graph) c.seat.view_is)) in
    let fair : IsFair v.graph (min v.seen w.seen) = IsFair-min v.graph v.seen w.seen i.3 (subst (λ g. IsFair g w.seen) graphs c.other.invariant.3) in
    let is = c.join_seat.ensures.2 in (
      ap (λ (m : Me (Unit {0}) View). m.1) is ∙ i.0,
      ap (λ (m : Me (Unit {0}) View). m.0.live) is ∙ i.1,
      ap (λ (z : TableId). z.words) c.join_seat.ensures.0 ∙ (i.2 ∙ sym (ap (λ (m : Me (Unit {0}) View). words_for (edge_count m.0.graph) m.0.graph.vertices) is)),
      subst (λ (m : Me (Unit {0}) View). IsFair m.0.graph m.0.seen) (sym is) fair,
    )
