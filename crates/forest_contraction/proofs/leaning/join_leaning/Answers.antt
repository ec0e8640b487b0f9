-- What leans is safe, and may be made one.
use Rattle.std.proofs.Common.{◌∙◌, get_or, sym}
use Rattle.weighted_graph.proofs.Rows.{no_edge}
use Rattle.vertex_classes.specs.Classes.{no_vertex}
use Rattle.vertex_classes.proofs.Numbered.{zero_out}
use Rattle.forest_contraction.proofs.Hubs.{edge_in, safe_joined}
use Rattle.forest_contraction.proofs.leaning.join_leaning.Goals as goal
use Rattle.forest_contraction.proofs.leaning.join_leaning.Goals.{then-lean, else-lean}

pub lean-requires-clause-hubs : goal.lean-requires-clause-hubs
lean-requires-clause-hubs c =
    let items = c.edges-edge-items in
    let e = edge_in c.args.list.now items.ensures.edge_list.is_graph items.result.now items.ensures.value c.loop-edge.edge-index c.loop-edge-test.true in
    (c.args.list.now, c.requires.hubs, e.u_in, e.v_in)

pub lean-requires-clause-light : goal.lean-requires-clause-light
lean-requires-clause-light c =
    let items = c.edges-edge-items in
    let e = edge_in c.args.list.now items.ensures.edge_list.is_graph items.result.now items.ensures.value c.loop-edge.edge-index c.loop-edge-test.true in
    e.small

pub loop-edge-preserved : goal.loop-edge-preserved
loop-edge-preserved c =
    let g = c.args.list.now in
    let items = c.edges-edge-items in
    let edge = get_or items.result.now c.loop-edge.edge-index no_edge in
    let e = edge_in g items.ensures.edge_list.is_graph items.result.now items.ensures.value c.loop-edge.edge-index c.loop-edge-test.true in
    elim c.if-lean.branch [
      | then-lean w ↦
          (let safe = e.safe c.args.bound (c.lean.ensures w.if-lean.true g c.requires.hubs) in
          rw w.classes-is (record {
            long = w.join.ensures.long ∙ c.loop-edge.invariant.long;
            safe = safe_joined g c.args.bound edge.u edge.v c.loop-edge.classes w.join.new.self c.loop-edge.invariant.safe w.join.ensures safe;
            apart = (w.join.ensures.respected no_vertex).1 (c.loop-edge.invariant.apart, zero_out edge.u e.u_one ∙ sym (zero_out edge.v e.v_one));
          }))
      | else-lean w ↦ rw w.classes-is c.loop-edge.invariant
    ]
