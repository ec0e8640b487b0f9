use Rattle.std.proofs.Common.{◌≡◌, ◌+◌, ◌<◌, take, get_or, arith}
use Rattle.std.proofs.lemmas.List.Sums.{sum_by_more, get_or-le-sum_by}
use Rattle.cut_definitions.proofs.Bools.{counted_in, counted_out}
use Rattle.weighted_graph.specs.declared.graph.Arc.{Arc}
use Rattle.weighted_graph.specs.Rows.{no_arc, weight_in}
use Rattle.capped_scan.specs.Scan.{is_marked}
use Rattle.capped_scan.proofs.Raised.{marked_term, inside_fits, raised-le, weight_in-part, raised_marked, raised_more}
use Rattle.capped_scan.proofs.raising.raise_along.Goals as goal
use Rattle.capped_scan.proofs.raising.raise_along.Goals.{then-scanned-to, else-scanned-to}

pub overflow_add-inside : goal.overflow_add-inside
overflow_add-inside c = omega (arith, inside_fits c.args.scanned.now c.args.row.now c.loop-arc.arc-index c.loop-arc-test.true c.requires.total, c.loop-arc.invariant.inside)

pub raise-requires-clause-fits : goal.raise-requires-clause-fits
raise-requires-clause-fits c =
    let row = c.args.row.now in
    let i = c.loop-arc.arc-index in
    let a = get_or row i no_arc in
    let inside : a.to < c.args.size = omega (arith, c.requires.within i no_arc c.loop-arc-test.true, c.requires.marks) in
    omega (
      arith,
      c.loop-arc.invariant.keys.keys a.to inside,
      raised-le c.args.cap (get_or c.args.tree.now (c.args.size + a.to) 0) (weight_in (take i row) a.to),
      weight_in-part row i a.to c.requires.total,
      c.requires.small a.to inside,
      get_or-le-sum_by (λ (b : Arc). b.weight) row i no_arc c.loop-arc-test.true,
    )

pub loop-arc-preserved : goal.loop-arc-preserved
loop-arc-preserved c =
    let row = c.args.row.now in
    let i = c.loop-arc.arc-index in
    let a = get_or row i no_arc in
    let marks = c.args.scanned.now in
    let more = sum_by_more (marked_term marks) row i no_arc c.loop-arc-test.true in
    let inv = c.loop-arc.invariant in
    elim c.if-scanned-to.branch [
      | then-scanned-to w ↦ (
          let term : marked_term marks a ≡ a.weight = counted_in (is_marked marks a.to) a.weight w.if-scanned-to.true in
          rw (w.tree-is, w.inside-is) record {
            keys = raised_marked c.args.size c.args.cap row i c.args.tree.now c.loop-arc.tree inv.keys c.loop-arc-test.true (c.requires.marked a.to w.if-scanned-to.true);
            inside = omega (arith, more, term, inv.inside);
          })
      | else-scanned-to w ↦ (
          let term : marked_term marks a ≡ 0 = counted_out (is_marked marks a.to) a.weight w.if-scanned-to.false in
          rw (w.tree-is, w.inside-is) record {
            keys = raised_more c.args.size c.args.cap row i c.args.tree.now c.loop-arc.tree inv.keys c.loop-arc-test.true w.raise.new.tree w.raise.ensures;
            inside = omega (arith, more, term, inv.inside);
          })
    ]
