-- The lightest vertex alone is a cut.
use Rattle.std.proofs.Common.{arith}
use Rattle.least_cut.proofs.FoundCuts.{alone_found}
use Rattle.least_cut.proofs.lightest.vertex_below.Goals as goal

pub returns-clause-found : goal.returns-clause-found
returns-clause-found c =
    let g = c.args.graph.now in
    let v = c.lightest_vertex-vertex.result in
    alone_found g c.n.ensures.edge_list.is_graph v c.args.bound _ c.requires c.lightest_vertex-vertex.ensures.from_one c.lightest_vertex-vertex.ensures.to_n
    (rw c.n.ensures.value at c.in_ok-side.ensures) c.degree-weight.ensures (omega (arith, c.if-weight-bound.false))
