-- The edges so far weigh what the first one weighs.
use Rattle.std.proofs.Common.{◌≡◌, get_or, take}
use Rattle.std.specs.List.{All}
use Rattle.cut_definitions.specs.declared.edge_list.Edge.{Edge}
use Rattle.weighted_graph.specs.RowLaws.{no_edge}
use Rattle.region_fronts.proofs.order.weights_differ.Given as goal

abbrev pub invariant-loop-edge : goal.invariant-loop-edge
invariant-loop-edge l = All (λ (e : Edge). e.w ≡ (get_or l.edges 0 no_edge).w) (take l.edge-index l.edges)
