use Rattle.std.proofs.Common.{◌≡◌, ◌<◌, ◌≤◌, ◌+◌, ℕ, ⊎_elim, true, length, get_or, refl, ap, sym, ◌∙◌, subst, arith, List}
use Rattle.std.specs.Prelude.{◌≢◌}
use Rattle.std.proofs.lemmas.Bool.{cases_eq, false≢true}
use Rattle.std.proofs.lemmas.List.Elements.{All-from_get_or}
use Rattle.weighted_graph.specs.declared.graph.Arc.{Arc}
use Rattle.weighted_graph.specs.Rows.{row_of, no_arc}
use Rattle.weighted_graph.specs.RowLaws.{IsArcAt}
use Rattle.weighted_graph.proofs.MarkLaws.{safe_from_cuts}
use Rattle.weighted_graph.proofs.RowLaws.{law_of_rows}
use Rattle.weighted_graph.proofs.Searched.{row_within}
use Rattle.capped_scan.specs.Scan.{waits, rank}
use Rattle.round_workers.proofs.Marking.{more_kept, more_here, safe-more, arc_safe, read_row}
use Rattle.round_workers.proofs.linking.mark_links.Goals as goal
use Rattle.round_workers.proofs.linking.mark_links.Goals.{then-link-bound, else-link-bound}

pub link-requires-clause-from_one : goal.link-requires-clause-from_one
link-requires-clause-from_one c =
    let g = c.args.graph.now in
    let e = c.row-arc-items.ensures in
    (read_row (λ (a : Arc). (1 ≤ a.to) × (a.to ≤ g.vertices)) c.row-arc-items.result.now (row_of g c.args.vertex) e.value (row_within g e.edge_list.is_graph c.args.vertex) c.loop-arc.arc-index c.loop-arc-test.true).0

pub link-requires-clause-to_n : goal.link-requires-clause-to_n
link-requires-clause-to_n c =
    let g = c.args.graph.now in
    let e = c.row-arc-items.ensures in
    (read_row (λ (a : Arc). (1 ≤ a.to) × (a.to ≤ g.vertices)) c.row-arc-items.result.now (row_of g c.args.vertex) e.value (row_within g e.edge_list.is_graph c.args.vertex) c.loop-arc.arc-index c.loop-arc-test.true).1

pub set-requires : goal.set-requires
set-requires c =
    let g = c.args.graph.now in
    let e = c.row-arc-items.ensures in
    let a = read_row (IsArcAt g c.args.vertex) c.row-arc-items.result.now (row_of g c.args.vertex) e.value (law_of_rows g e.edge_list.is_graph c.args.vertex).arcs c.loop-arc.arc-index c.loop-arc-test.true in
    omega (arith, a.within, c.loop-arc.invariant.edges, c.requires.marks)

pub loop-arc-init : goal.loop-arc-init
loop-arc-init c = record {
  edges = refl;
  kept = λ i l is. is;
  safe = c.requires.safe;
  some = λ is. absurd (false≢true is);
  below = λ no k l held. absurd (omega arith);
}

pub loop-arc-preserved : goal.loop-arc-preserved
loop-arc-preserved c =
    let g = c.args.graph.now in
    let s = c.args.scan.now in
    let x = c.args.vertex in
    let e = c.row-arc-items.ensures in
    let ok = e.edge_list.is_graph in
    let row = c.row-arc-items.result.now in
    let i = c.loop-arc.arc-index in
    let arc = get_or row i no_arc in
    let inv = c.loop-arc.invariant in
    let marks = c.loop-arc.marks in
    let bound = c.args.bound in
    let slack = c.args.slack in
    let a = read_row (IsArcAt g x) row (row_of g x) e.value (law_of_rows g ok x).arcs i c.loop-arc-test.true in
    let same : get_or row i no_arc ≡ get_or (row_of g x) i no_arc = ap (λ (r : List Arc). get_or r i no_arc) e.value in
    elim c.if-link-bound.branch [
      | then-link-bound w ↦ (
          let inside : arc.edge < marks.edges = omega (arith, a.within, inv.edges, c.requires.marks) in
          let reaches = w.if-link-bound.true in
          let safe = safe_from_cuts g ok bound slack x arc.to (λ set least parted. let low = c.link.ensures.lower x c.requires.latest.before set c.requires.latest.order_is parted in omega arith) in
          rw (w.marks-is, w.some-is, w.set.ensures) (record {
            edges = inv.edges;
            kept = λ i l is. more_kept marks arc.edge i (omega (arith, inv.edges)) (inv.kept i l is);
            safe = safe-more g marks arc.edge bound slack (inv.edges ∙ c.requires.marks) inv.safe (arc_safe g bound slack x arc a safe);
            some = λ is. record { edge = arc.edge; within = inside; is_marked = more_here marks arc.edge inside };
            below = λ no. absurd (false≢true (sym no));
          }))
      | else-link-bound w ↦ rw (w.marks-is, w.some-is) (record {
        edges = inv.edges;
        kept = inv.kept;
        safe = inv.safe;
        some = inv.some;
        below = λ no k l held. ⊎_elim
            (λ (q : k ≡ i).
            let at : get_or (row_of g x) k no_arc ≡ arc = ap (λ (j : ℕ). get_or (row_of g x) j no_arc) q ∙ sym same in
            let waits_here : waits s arc.to ≡ true = ap (λ (b : Arc). waits s b.to) (sym at) ∙ held in
            let is = c.link.ensures.waiting waits_here in
            let below = w.if-link-bound.false in
            let r : rank g s arc.to < bound + slack = omega arith in
            subst (λ (b : Arc). rank g s b.to < bound + slack) (sym at) r)
            (λ (ne : k ≢ i). inv.below no k (omega arith) held)
            (cases_eq k i);
      })
    ]

pub returns-clause-below : goal.returns-clause-below
returns-clause-below c none =
    let g = c.args.graph.now in
    let s = c.args.scan.now in
    let e = c.row-arc-items.ensures in
    All-from_get_or (λ (a : Arc). waits s a.to ≡ true → rank g s a.to < c.args.bound + c.args.slack) (row_of g c.args.vertex) no_arc
    (λ k l held. c.loop-arc.invariant.below none k (omega (arith, c.loop-arc-test.false, ap (λ (r : List Arc). length r) e.value)) held)
