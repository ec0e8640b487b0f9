-- A vertex found for each place.
use Rattle.std.proofs.Common.{subst, sym, arith}
use Rattle.vertex_order.specs.Numbering.{IsNumbering}
use Rattle.vertex_order.proofs.Found.{numbers_are_labels, numbers_every_vertex}
use Rattle.vertex_order.proofs.order.nearer_order.Goals as goal

pub loop-place-preserved : goal.loop-place-preserved
loop-place-preserved c = record {
  finding = c.in_ok-find_beside.ensures.finding;
  found = omega (arith, c.in_ok-find_beside.ensures.more, c.if-place-found.false, c.count-found.ensures);
}

pub from_list-requires-clause-labels : goal.from_list-requires-clause-labels
from_list-requires-clause-labels c =
    let h = c.loop-place.invariant in
    numbers_are_labels c.args.graph.now.vertices c.loop-place.finding h.finding (omega (arith, h.found, c.loop-place-test.false, c.n-n.ensures.value))

pub returns : goal.returns
returns c =
    let h = c.loop-place.invariant in
    subst (IsNumbering c.args.graph.now.vertices) (sym c.from_list.ensures)
    (numbers_every_vertex c.args.graph.now.vertices c.loop-place.finding h.finding (omega (arith, h.found, c.loop-place-test.false, c.n-n.ensures.value)))
