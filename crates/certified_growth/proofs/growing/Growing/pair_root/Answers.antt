use Rattle.std.proofs.Common.{◌≤◌, arith}
use Rattle.weighted_graph.specs.RowLaws.{IsArcAt}
use Rattle.weighted_graph.specs.Rows.{arc_at}
use Rattle.weighted_graph.proofs.RowLaws.{row_arc}
use Rattle.weighted_graph.proofs.Searched.{arc_within}
use Rattle.certified_growth.proofs.growing.Growing.pair_root.Goals as goal

pub bounds-owners-arc : goal.bounds-owners-arc
bounds-owners-arc c =
    let g = c.args.graph.now in
    let v = c.args.self.now.root in
    let a = arc_at c.row-row.result.now c.loop-arc.arc-index in
    let at : IsArcAt g v a = row_arc g c.row-row.result.now v c.loop-arc.arc-index c.row-row.ensures.value c.loop-arc-test.true in
    let to : a.to ≤ g.vertices = (arc_within g c.n-n.ensures.edge_list.is_graph v a at).1 in
    omega (arith, to, c.requires.growing.owners_long)

pub enter_pair-requires-clause-to_n : goal.enter_pair-requires-clause-to_n
enter_pair-requires-clause-to_n c =
    let g = c.args.graph.now in
    let v = c.args.self.now.root in
    let a = arc_at c.row-row.result.now c.loop-arc.arc-index in
    let at : IsArcAt g v a = row_arc g c.row-row.result.now v c.loop-arc.arc-index c.row-row.ensures.value c.loop-arc-test.true in
    (arc_within g c.n-n.ensures.edge_list.is_graph v a at).1
