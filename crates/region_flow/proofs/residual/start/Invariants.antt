-- The numbers so far are the weights of the edges.
use Rattle.std.proofs.Common.{◌≡◌, map, take}
use Rattle.cut_definitions.specs.declared.edge_list.Edge.{Edge}
use Rattle.region_flow.proofs.residual.start.Given as goal

abbrev pub invariant-loop-i : goal.invariant-loop-i
invariant-loop-i l = take l.i l.toward ≡ map (λ (e : Edge). e.w) (take l.i l.graph.edges)
