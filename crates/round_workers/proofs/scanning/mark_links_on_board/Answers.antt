use Rattle.std.proofs.Common.{◌≤◌, get_or, length, ap, arith, inl, inr}
use Rattle.cut_definitions.specs.Graph.{Graph}
use Rattle.weighted_graph.specs.declared.graph.Arc.{Arc}
use Rattle.weighted_graph.specs.Rows.{row_of, no_arc}
use Rattle.weighted_graph.specs.RowLaws.{IsArcAt}
use Rattle.weighted_graph.proofs.MarkLaws.{safe_from_cuts}
use Rattle.weighted_graph.proofs.RowLaws.{law_of_rows}
use Rattle.weighted_graph.proofs.Searched.{row_within}
use Rattle.round_workers.proofs.Marking.{arc_safe, read_row}
use Rattle.round_workers.proofs.Seats.{gaining, later_both, later_gaining, seen_gaining, may_mark}
use Rattle.round_workers.proofs.scanning.mark_links_on_board.Goals as goal
use Rattle.round_workers.proofs.scanning.mark_links_on_board.Goals.{then-link-threshold, else-link-threshold}

pub link-requires-clause-from_one : goal.link-requires-clause-from_one
link-requires-clause-from_one c =
    let g = c.args.graph.now in
    let e = c.row-arc-items.ensures in
    (read_row (λ (a : Arc). (1 ≤ a.to) × (a.to ≤ g.vertices)) c.row-arc-items.result.now (row_of g c.args.vertex) e.value (row_within g e.edge_list.is_graph c.args.vertex) c.loop-arc.arc-index c.loop-arc-test.true).0

pub link-requires-clause-to_n : goal.link-requires-clause-to_n
link-requires-clause-to_n c =
    let g = c.args.graph.now in
    let e = c.row-arc-items.ensures in
    (read_row (λ (a : Arc). (1 ≤ a.to) × (a.to ≤ g.vertices)) c.row-arc-items.result.now (row_of g c.args.vertex) e.value (row_within g e.edge_list.is_graph c.args.vertex) c.loop-arc.arc-index c.loop-arc-test.true).1

pub mark_once-requires-clause-edge : goal.mark_once-requires-clause-edge
mark_once-requires-clause-edge c =
    let g = c.args.graph.now in
    let e = c.row-arc-items.ensures in
    let a = read_row (IsArcAt g c.args.vertex) c.row-arc-items.result.now (row_of g c.args.vertex) e.value (law_of_rows g e.edge_list.is_graph c.args.vertex).arcs c.loop-arc.arc-index c.loop-arc-test.true in
    omega (arith, a.within, ap (λ (k : Graph). length k.edges) c.loop-arc.invariant.seen.graph)

pub mark_once-requires-clause-safe : goal.mark_once-requires-clause-safe
mark_once-requires-clause-safe c =
    let g = c.args.graph.now in
    let x = c.args.vertex in
    let e = c.row-arc-items.ensures in
    let ok = e.edge_list.is_graph in
    let row = c.row-arc-items.result.now in
    let i = c.loop-arc.arc-index in
    let arc = get_or row i no_arc in
    let bound = c.args.threshold.bound in
    let slack = c.args.threshold.slack in
    let a = read_row (IsArcAt g x) row (row_of g x) e.value (law_of_rows g ok x).arcs i c.loop-arc-test.true in
    let reaches = c.if-link-threshold.true in
    let safe = safe_from_cuts g ok bound slack x arc.to (λ set least parted. let low = c.link.ensures.lower x c.requires.latest.before set c.requires.latest.order_is parted in omega arith) in
    may_mark c.args.board.now g slack bound arc.edge c.loop-arc.seat c.loop-arc.invariant.seen (arc_safe g bound slack x arc a safe)

pub loop-arc-preserved : goal.loop-arc-preserved
loop-arc-preserved c =
    let edge = (get_or c.row-arc-items.result.now c.loop-arc.arc-index no_arc).edge in
    let seat = c.loop-arc.seat in
    let inv = c.loop-arc.invariant in
    elim c.if-link-threshold.branch [
      | then-link-threshold w ↦ rw w.seat-is (elim w.mark_once.ensures [
        | inl same ↦ rw same inv
        | inr more ↦ rw more (record {
          seen = seen_gaining c.args.board.now c.args.graph.now c.args.threshold.slack c.args.threshold.bound edge seat inv.seen;
          later = later_both c.args.seat.now seat (gaining seat edge) inv.later (later_gaining seat edge);
        })
      ])
      | else-link-threshold w ↦ rw w.seat-is inv
    ]
