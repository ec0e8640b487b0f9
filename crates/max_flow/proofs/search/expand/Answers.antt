-- The tree goes on along each arc of the row that can carry something.
use Rattle.std.proofs.Common.{◌<◌, ◌≤◌, ⊎_elim, get_or, take, refl, sym, ◌∙◌, arith}
use Rattle.std.proofs.lemmas.Bool.{cases_lt}
use Rattle.std.proofs.lemmas.List.{take_all}
use Rattle.std.proofs.lemmas.List.Elements.{All-more, All-weaker, All-same}
use Rattle.weighted_graph.specs.declared.graph.Arc.{Arc}
use Rattle.weighted_graph.specs.Rows.{row_of, no_arc}
use Rattle.region_flow.specs.Closed.{residual_on}
use Rattle.max_flow.specs.Tree.{step_at}
use Rattle.region_flow.specs.Marks.{order_mark}
use Rattle.max_flow.proofs.Trees.{room_left}
use Rattle.max_flow.proofs.Reaching.{arc_facts, bottleneck_some, follows, bottleneck_at_most, bottleneck_is_some, bottleneck_unmarked}
use Rattle.region_flow.proofs.Starting.{edge_weight_small}
use Rattle.max_flow.proofs.search.expand.Goals as goal

pub bottleneck_along-requires-clause-edge : goal.bottleneck_along-requires-clause-edge
bottleneck_along-requires-clause-edge c =
    let a = arc_facts c.args.graph.now c.row-row.ensures.edge_list.is_graph c.args.toward.now c.row-row.result.now _ c.loop-arc.arc-index c.row-row.ensures.value c.loop-arc-test.true in
    omega (arith, a.edge, c.requires.residual.each)

pub bottleneck_along-requires-clause-bounded : goal.bottleneck_along-requires-clause-bounded
bottleneck_along-requires-clause-bounded c =
    let a = arc_facts c.args.graph.now c.row-row.ensures.edge_list.is_graph c.args.toward.now c.row-row.result.now _ c.loop-arc.arc-index c.row-row.ensures.value c.loop-arc-test.true in
    rw a.weight (c.requires.residual.bounded _ a.edge)

pub bottleneck_along-requires-clause-small : goal.bottleneck_along-requires-clause-small
bottleneck_along-requires-clause-small c =
    let g = c.args.graph.now in
    let ok = c.row-row.ensures.edge_list.is_graph in
    let a = arc_facts g ok c.args.toward.now c.row-row.result.now _ c.loop-arc.arc-index c.row-row.ensures.value c.loop-arc-test.true in
    rw a.weight (edge_weight_small g ok _ a.edge)

pub bottleneck_along-requires-clause-vertex : goal.bottleneck_along-requires-clause-vertex
bottleneck_along-requires-clause-vertex c =
    let a = arc_facts c.args.graph.now c.row-row.ensures.edge_list.is_graph c.args.toward.now c.row-row.result.now _ c.loop-arc.arc-index c.row-row.ensures.value c.loop-arc-test.true in
    omega (arith, a.to_n, c.loop-arc.invariant.extends.tree.marking.marks_length)

pub reach-count-requires-clause-vertex : goal.reach-count-requires-clause-vertex
reach-count-requires-clause-vertex c =
    let a = arc_facts c.args.graph.now c.row-row.ensures.edge_list.is_graph c.args.toward.now c.row-row.result.now _ c.loop-arc.arc-index c.row-row.ensures.value c.loop-arc-test.true in
    omega (arith, a.to_n, c.loop-arc.invariant.extends.tree.marking.marks_length)

pub reach-count-requires-clause-new : goal.reach-count-requires-clause-new
reach-count-requires-clause-new c = λ some. bottleneck_unmarked _ _ c.bottleneck_along.ensures.reached some

pub reach-count-requires-clause-free : goal.reach-count-requires-clause-free
reach-count-requires-clause-free c = λ some.
    let a = arc_facts c.args.graph.now c.row-row.ensures.edge_list.is_graph c.args.toward.now c.row-row.result.now _ c.loop-arc.arc-index c.row-row.ensures.value c.loop-arc-test.true in
    room_left c.args.graph.now.vertices _ _ _ _ c.loop-arc.invariant.extends.tree.marking a.to_n (bottleneck_unmarked _ _ c.bottleneck_along.ensures.reached some)

pub loop-arc-preserved : goal.loop-arc-preserved
loop-arc-preserved c =
    let g = c.args.graph.now in
    let toward = c.args.toward.now in
    let row = c.row-row.result.now in
    let k = c.loop-arc.arc-index in
    let from = step_at c.args.steps.now c.args.place in
    let arc = get_or row k no_arc in
    let a = arc_facts g c.row-row.ensures.edge_list.is_graph toward row from.vertex k c.row-row.ensures.value c.loop-arc-test.true in
    let inv = c.loop-arc.invariant in
    let bottleneck = c.bottleneck_along.ensures in
    let most = bottleneck_at_most (order_mark c.loop-arc.marks arc.to) (residual_on from.vertex toward arc) from.bottleneck c.bottleneck_along.result bottleneck.reached bottleneck.new in
    let wide = bottleneck_some g toward c.args.marks.now c.args.steps.now c.args.count c.args.place c.requires.tree c.requires.place in
    let f = follows g toward c.args.marks.now c.args.steps.now c.args.count c.loop-arc.marks c.loop-arc.steps c.loop-arc.count
    c.reach-count.new.marks c.reach-count.new.steps c.reach-count.result c.args.place from.vertex c.bottleneck_along.result arc
    inv.extends c.requires.place refl a most.0 most.1 c.reach-count.ensures in
    record {
      extends = f.extends;
      expanded = All-more (λ b. 0 < residual_on from.vertex toward b → 0 < order_mark c.reach-count.new.marks b.to) row k no_arc c.loop-arc-test.true
          (All-weaker (λ b. 0 < residual_on from.vertex toward b → 0 < order_mark c.loop-arc.marks b.to) (λ b. 0 < residual_on from.vertex toward b → 0 < order_mark c.reach-count.new.marks b.to)
          (λ b h p. f.kept b.to (h p)) (take k row) inv.expanded)
          (λ p. ⊎_elim
          (λ (q : 0 < order_mark c.loop-arc.marks arc.to). f.kept arc.to q)
          (λ (q : order_mark c.loop-arc.marks arc.to ≤ 0).
          f.marked (bottleneck_is_some (order_mark c.loop-arc.marks arc.to) (residual_on from.vertex toward arc) from.bottleneck c.bottleneck_along.result bottleneck.new wide p (omega arith)))
          (cases_lt 0 (order_mark c.loop-arc.marks arc.to)));
    }

pub returns-clause-expanded : goal.returns-clause-expanded
returns-clause-expanded c =
    let row = c.row-row.result.now in
    let from = step_at c.args.steps.now c.args.place in
    let P = λ (b : Arc). 0 < residual_on from.vertex c.args.toward.now b → 0 < order_mark c.loop-arc.marks b.to in
    All-same P (row_of c.args.graph.now from.vertex) (take c.loop-arc.arc-index row) (sym c.row-row.ensures.value ∙ sym (take_all c.loop-arc.arc-index row c.loop-arc-test.false)) c.loop-arc.invariant.expanded
