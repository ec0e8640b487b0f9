use Rattle.std.proofs.Common.{◌≡◌}
use Rattle.std.specs.List.{All}
use Rattle.vertex_set.specs.Side.{VertexList, members_of}
use Rattle.component_cuts.proofs.Doubled.{AreUnionsTo}
use Rattle.component_cuts.proofs.components.Components.sides.Given as goal

abbrev pub invariant-loop-done : goal.invariant-loop-done
invariant-loop-done l = record {
  over_n : All (λ (s : VertexList). s.vertices ≡ l.self.vertices) l.sides.items;
  are : AreUnionsTo l.self l.done (members_of l.sides.items);
}
