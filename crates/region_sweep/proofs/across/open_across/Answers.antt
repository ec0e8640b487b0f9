-- A vertex outside the region is joined to what its row has of the region.
use Rattle.std.proofs.Common.{arith}
use Rattle.weighted_graph.proofs.Searched.{arc_within}
use Rattle.weighted_graph.proofs.RowLaws.{row_arc}
use Rattle.region_sweep.proofs.across.open_across.Goals as goal

pub bounds-labels-arc : goal.bounds-labels-arc
bounds-labels-arc c =
    let at = row_arc c.args.graph.now c.row-row.result.now c.args.t c.loop-arc.arc-index c.row-row.ensures.value c.loop-arc-test.true in
    omega (arith, c.requires.labels, (arc_within c.args.graph.now c.row-row.ensures.edge_list.is_graph c.args.t _ at).1)

pub first_of_region-requires-clause-to_n : goal.first_of_region-requires-clause-to_n
first_of_region-requires-clause-to_n c =
    let at = row_arc c.args.graph.now c.row-row.result.now c.args.t c.loop-arc.arc-index c.row-row.ensures.value c.loop-arc-test.true in
    (arc_within c.args.graph.now c.row-row.ensures.edge_list.is_graph c.args.t _ at).1
