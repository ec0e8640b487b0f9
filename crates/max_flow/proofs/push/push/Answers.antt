-- A push along one arc more of the path.
use Rattle.std.proofs.Common.{◌≡◌, eqb, get_or, set, ◌∙◌, ap}
use Rattle.std.proofs.lemmas.List.{get_or_read}
use Rattle.cut_definitions.specs.declared.edge_list.Edge.{Edge}
use Rattle.region_flow.specs.Residual.{edge_of}
use Rattle.max_flow.specs.Tree.{step_at}
use Rattle.region_flow.proofs.Sending.{carried}
use Rattle.max_flow.proofs.Pushing.{push_more}
use Rattle.max_flow.proofs.push.push.Goals as goal

pub loop-at-preserved : goal.loop-at-preserved
loop-at-preserved c =
    let g = c.args.graph.now in
    let at = c.loop-at.at in
    let st = step_at c.args.steps.now at in
    let toward = c.loop-at.toward in
    let reached = c.requires.path.reached at c.loop-at-test.true c.loop-at.invariant.inside in
    let read : c.edge-edge.result ≡ edge_of g.edges st.edge = get_or_read g.edges st.edge c.edge-edge.result reached.edge c.edge-edge.ensures.by_index _ in
    let is = c.carry.ensures ∙ ap (λ (e : Edge). set toward st.edge (carried (eqb e.v st.vertex) (get_or toward st.edge 0) c.args.amount)) read in
    push_more g c.requires.edge_list.is_graph c.args.toward.now toward c.args.steps.now c.args.place at c.args.amount c.requires.path c.loop-at-test.true
    c.loop-at.invariant c.carry.new.toward is
