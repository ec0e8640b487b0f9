-- An arc of the row leads to a vertex of the region, which an edge joins to p.
use Rattle.std.proofs.Common.{get_or, arith}
use Rattle.weighted_graph.specs.Rows.{no_arc}
use Rattle.weighted_graph.proofs.Searched.{arc_within}
use Rattle.weighted_graph.proofs.RowLaws.{row_arc}
use Rattle.region_fronts.proofs.Joined.{joined_back}
use Rattle.region_fronts.proofs.Opening.{arc_joined}
use Rattle.region_sweep.proofs.across.first_of_region.Goals as goal

pub bounds-labels-arc : goal.bounds-labels-arc
bounds-labels-arc c =
    let at = row_arc c.args.graph.now c.row-row.result.now c.args.p c.loop-arc.arc-index c.row-row.ensures.value c.loop-arc-test.true in
    omega (arith, c.requires.labels, (arc_within c.args.graph.now c.row-row.ensures.edge_list.is_graph c.args.p _ at).1)

pub returns-then-labels-arc : goal.returns-then-labels-arc
returns-then-labels-arc c =
    let g = c.args.graph.now in
    let a = get_or c.row-row.result.now c.loop-arc.arc-index no_arc in
    let at = row_arc g c.row-row.result.now c.args.p c.loop-arc.arc-index c.row-row.ensures.value c.loop-arc-test.true in
    record {
      to_n = (arc_within g c.row-row.ensures.edge_list.is_graph c.args.p a at).1;
      inside = c.if-labels-arc.true;
      joined = joined_back g a.to c.args.p (arc_joined g c.args.p a at);
    }
