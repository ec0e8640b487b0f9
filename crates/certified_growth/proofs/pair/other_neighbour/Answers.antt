use Rattle.weighted_graph.specs.RowLaws.{IsArcAt}
use Rattle.weighted_graph.specs.Rows.{arc_at}
use Rattle.weighted_graph.proofs.RowLaws.{row_arc}
use Rattle.weighted_graph.proofs.Searched.{arc_within}
use Rattle.certified_growth.proofs.pair.other_neighbour.Goals as goal

pub returns-then-arc-but : goal.returns-then-arc-but
returns-then-arc-but c =
    let g = c.args.graph.now in
    let a = arc_at c.row-arc-items.result.now c.loop-arc.arc-index in
    let at : IsArcAt g c.args.v a = row_arc g c.row-arc-items.result.now c.args.v c.loop-arc.arc-index c.row-arc-items.ensures.value c.loop-arc-test.true in
    (arc_within g c.n-n.ensures.edge_list.is_graph c.args.v a at).1
