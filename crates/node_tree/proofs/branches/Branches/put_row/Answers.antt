-- One arc more, or all arcs of the row.
use Rattle.std.proofs.Common.{arith}
use Rattle.weighted_graph.proofs.Searched.{arc_within}
use Rattle.weighted_graph.proofs.RowLaws.{row_arc}
use Rattle.node_tree.proofs.Branching.{row_begins, row_done, row_is, row_on}
use Rattle.node_tree.proofs.branches.Branches.put_row.Goals as goal

pub loop-arc-init : goal.loop-arc-init
loop-arc-init c = row_begins c.args.graph.now c.args.weight c.args.self.now c.args.node _ c.requires.branching

pub put_arc-requires-clause-search : goal.put_arc-requires-clause-search
put_arc-requires-clause-search c =
    let g = c.args.graph.now in
    let at = row_arc g c.row-arc-items.result.now c.index.result.now c.loop-arc.arc-index c.row-arc-items.ensures.value c.loop-arc-test.true in
    let within = arc_within g c.row-arc-items.ensures.edge_list.is_graph c.index.result.now _ at in
    (g.vertices, c.loop-arc.invariant.search, within.0, within.1)

pub put_arc-requires-clause-within : goal.put_arc-requires-clause-within
put_arc-requires-clause-within c = omega (arith, c.requires.within, c.loop-arc.invariant.kept.more)

pub loop-arc-preserved : goal.loop-arc-preserved
loop-arc-preserved c =
    let g = c.args.graph.now in
    let h = c.loop-arc.invariant in
    let at = row_arc g c.row-arc-items.result.now c.index.result.now c.loop-arc.arc-index c.row-arc-items.ensures.value c.loop-arc-test.true in
    let within = arc_within g c.row-arc-items.ensures.edge_list.is_graph c.index.result.now _ at in
    row_on g.vertices c.args.weight c.args.self.now c.loop-arc.self c.put_arc.new.self c.args.node c.row-arc-items.result.now c.loop-arc.arc-index c.requires.within h
    (c.in_ok-put_arc.ensures c.if-not-branch.false g.vertices h.search within.0 within.1)

pub returns : goal.returns
returns c = λ yes.
    row_done c.args.graph.now c.args.weight c.args.self.now c.loop-arc.self c.args.node c.loop-arc.arc-index c.row-arc-items.result.now c.requires.within c.requires.branching
    (row_is c.args.graph.now c.args.self.now c.args.node c.index.result.now c.row-arc-items.result.now c.requires.within c.index.ensures c.row-arc-items.ensures.value) c.loop-arc.invariant c.loop-arc-test.false
