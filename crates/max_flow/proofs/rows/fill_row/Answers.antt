-- Each arc of the row has its edge and a number that fits.
use Rattle.std.proofs.Common.{arith}
use Rattle.max_flow.proofs.Reaching.{arc_facts}
use Rattle.region_flow.proofs.Starting.{edge_weight_small}
use Rattle.max_flow.proofs.rows.fill_row.Goals as goal

pub residual_on-requires-clause-edge : goal.residual_on-requires-clause-edge
residual_on-requires-clause-edge c =
    let a = arc_facts c.args.graph.now c.row-row.ensures.edge_list.is_graph c.args.toward.now c.row-row.result.now _ c.loop-k.k c.row-row.ensures.value c.loop-k-test.true in
    omega (arith, a.edge, c.requires.residual.each)

pub residual_on-requires-clause-bounded : goal.residual_on-requires-clause-bounded
residual_on-requires-clause-bounded c =
    let a = arc_facts c.args.graph.now c.row-row.ensures.edge_list.is_graph c.args.toward.now c.row-row.result.now _ c.loop-k.k c.row-row.ensures.value c.loop-k-test.true in
    rw a.weight (c.requires.residual.bounded _ a.edge)

pub residual_on-requires-clause-small : goal.residual_on-requires-clause-small
residual_on-requires-clause-small c =
    let g = c.args.graph.now in
    let ok = c.row-row.ensures.edge_list.is_graph in
    let a = arc_facts g ok c.args.toward.now c.row-row.result.now _ c.loop-k.k c.row-row.ensures.value c.loop-k-test.true in
    rw a.weight (edge_weight_small g ok _ a.edge)
