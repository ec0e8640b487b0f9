use Rattle.std.proofs.Common.{◌≡◌, length}
use Rattle.weighted_graph.proofs.Joined.{AreOfEdgesBefore}
use Rattle.component_cuts.proofs.edge_classes.join_ends.Given as goal

abbrev pub invariant-loop-edge : goal.invariant-loop-edge
invariant-loop-edge l = record {
  long : length l.classes ≡ length l.fn.classes;
  joined : AreOfEdgesBefore l.list.edges l.edge-index l.classes;
}
