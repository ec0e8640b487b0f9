use Rattle.std.proofs.Common.{arith, ◌≤◌, ◌^◌}
use Rattle.std.specs.List.{sum_by}
use Rattle.cut_definitions.specs.declared.edge_list.Edge.{Edge}
use Rattle.cut_definitions.specs.Cuts.{has}
use Rattle.cut_definitions.proofs.Running.{cut_part_le}
use Rattle.weighted_graph.proofs.Rows.{no_edge}
use Rattle.weighted_graph.proofs.graph.Graph.weight_of.Goals as goal

pub overflow_add-total : goal.overflow_add-total
overflow_add-total c =
    let edges = c.edge_list-edge-items.result.now in
    let same = c.edge_list-edge-items.ensures.value in
    let whole : sum_by (λ (e : Edge). e.w) edges ≤ 2 ^ 61 = rw same c.edge_list-edge-items.ensures.edge_list.is_graph.total in
    let inv = (rw (← same) at c.loop-edge.invariant) in
    omega (arith, cut_part_le (has c.args.side.now.members) edges c.loop-edge.edge-index no_edge c.loop-edge-test.true, inv)
