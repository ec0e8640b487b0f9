-- Each edge shows its ends to one another.
use Rattle.forest_contraction.proofs.Hubs.{edge_in}
use Rattle.forest_contraction.proofs.leaning.Hubs.of.Goals as goal

pub see-requires : goal.see-requires
see-requires c =
    let items = c.edges-edge-items in
    let e = edge_in c.args.list.now items.ensures.edge_list.is_graph items.result.now items.ensures.value c.loop-edge.edge-index c.loop-edge-test.true in
    record { hubs = (c.args.list.now, c.loop-edge.invariant, e.u_in, e.v_in) }

pub see-requires-in-loop-edge : goal.see-requires-in-loop-edge
see-requires-in-loop-edge c =
    let items = c.edges-edge-items in
    let e = edge_in c.args.list.now items.ensures.edge_list.is_graph items.result.now items.ensures.value c.loop-edge.edge-index c.loop-edge-test.true in
    record { hubs = (c.args.list.now, c.see.ensures c.args.list.now c.loop-edge.invariant e.u_in e.v_in e.some e.small e.forth, e.v_in, e.u_in) }

pub loop-edge-preserved : goal.loop-edge-preserved
loop-edge-preserved c =
    let items = c.edges-edge-items in
    let e = edge_in c.args.list.now items.ensures.edge_list.is_graph items.result.now items.ensures.value c.loop-edge.edge-index c.loop-edge-test.true in
    c.see-in-loop-edge.ensures c.args.list.now (c.see.ensures c.args.list.now c.loop-edge.invariant e.u_in e.v_in e.some e.small e.forth) e.v_in e.u_in e.some e.small e.back
