-- Edges fewer than a dense graph has.
use Rattle.std.proofs.Common.{◌≡◌, ◌*◌, arith}
use Rattle.std.proofs.lemmas.Bool.{ltb-true}
use Rattle.least_cut.proofs.FewEdges.{few_edges}
use Rattle.least_cut.proofs.dense.has_few_edges.Goals as goal

pub returns-then-edges-ge1-clause-sparse : goal.returns-then-edges-ge1-clause-sparse
returns-then-edges-ge1-clause-sparse c = λ few.
    let g = c.args.list.now in
    let n : c.from-n.result ≡ g.vertices = omega (arith, c.from-n.ensures, c.n.ensures.value) in
    let less = ltb-true (4 * c.len-edges.result) (c.from-n.result * c.from-n.result) few in
    few_edges g c.n.ensures.edge_list.is_graph (omega (arith, c.if-edges-ge1.true, c.len-edges.ensures)) (rw (c.len-edges.ensures, n) at less)
