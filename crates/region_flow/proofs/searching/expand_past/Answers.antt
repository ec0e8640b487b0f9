-- The arcs of the row but those to one vertex are followed, or the root got what it wants.
use Rattle.std.proofs.Common.{◌∙◌, arith}
use Rattle.weighted_graph.proofs.RowLaws.{row_arc}
use Rattle.region_flow.proofs.Trees.{extends_more, path_of, passed_on}
use Rattle.region_flow.proofs.searching.expand_past.Goals as goal
use Rattle.region_flow.proofs.searching.expand_past.Goals.{else-visit_past-via-then-visit_past+else-is_done, else-visit_past-via-else-visit_past}

pub visit_past-requires-clause-arc : goal.visit_past-requires-clause-arc
visit_past-requires-clause-arc c =
    rw (c.loop-arc.invariant.extends.order_kept c.args.place c.requires.place)
    (rw c.places.ensures.order at (row_arc c.args.detour.task.graph.now c.row-row.result.now _ c.loop-arc.arc-index c.row-row.ensures.value c.loop-arc-test.true))

pub is_used_up-requires-clause-path : goal.is_used_up-requires-clause-path
is_used_up-requires-clause-path c =
    rw (c.places-2.ensures.order, c.places-2.ensures.links)
    (path_of c.args.detour.task.graph.now c.args.detour.task.labels.now _ _ _ _ c.args.place c.requires.tree.tree c.requires.place c.requires.outside)

pub is_done-requires-clause-path : goal.is_done-requires-clause-path
is_done-requires-clause-path c =
    let inv = c.loop-arc.invariant in
    let step = c.visit_past.ensures in
    let root = step.extends.order_kept 0 inv.tree.tree.some ∙ inv.extends.order_kept 0 c.requires.tree.tree.some in
    rw (c.places-then-visit_past.ensures.order, c.places-then-visit_past.ensures.links)
    (path_of c.args.detour.task.graph.now c.args.detour.task.labels.now _ _ _ _ c.args.place step.tree.tree (omega (arith, inv.extends.more, step.extends.more, c.requires.place)) (rw root c.requires.outside))

pub returns-then-is_done-clause-extends : goal.returns-then-is_done-clause-extends
returns-then-is_done-clause-extends c = extends_more _ _ _ _ _ _ _ _ _ c.loop-arc.invariant.extends c.visit_past.ensures.extends

pub returns-then-is_done-clause-others : goal.returns-then-is_done-clause-others
returns-then-is_done-clause-others c = λ u ne.
    let inv = c.loop-arc.invariant in
    let root = inv.extends.order_kept 0 c.requires.tree.tree.some in
    omega (arith, inv.others u ne, c.visit_past.ensures.others u (λ q. ne (q ∙ root)))

pub returns-then-is_done-clause-passed : goal.returns-then-is_done-clause-passed
returns-then-is_done-clause-passed c = λ z. passed_on _ _ _ _ _ _ (c.loop-arc.invariant.passed z) c.visit_past.ensures.passed

pub loop-arc-preserved : goal.loop-arc-preserved
loop-arc-preserved c =
    let inv = c.loop-arc.invariant in
    let root = inv.extends.order_kept 0 c.requires.tree.tree.some in
    let step = c.visit_past.ensures in
    record {
      wanting = elim c.else-visit_past.branch [
        | else-visit_past-via-then-visit_past+else-is_done w ↦
            rw (w.places-then-visit_past.ensures.order, step.extends.order_kept 0 inv.tree.tree.some, root) at (w.is_done.ensures.wanting w.if-is_done.false)
        | else-visit_past-via-else-visit_past w ↦ rw (step.still w.if-visit_past.false) inv.wanting
      ];
      flow = step.flow;
      tree = step.tree;
      extends = extends_more _ _ _ _ _ _ _ _ _ inv.extends step.extends;
      others = λ u ne. omega (arith, inv.others u ne, step.others u (λ q. ne (q ∙ root)));
      passed = λ z. passed_on _ _ _ _ _ _ (inv.passed z) step.passed;
    }
