use Rattle.std.proofs.Common.{◌≡◌, ◌≤◌, ◌-◌, max}
use Rattle.cut_definitions.specs.Weight.{VertexSet, minus}
use Rattle.cut_definitions.specs.Cuts.{has}
use Rattle.vertex_set.specs.Side.{listed}
use Rattle.rooted_cactus.specs.CutRanges.{elements_at}
use Rattle.cactus_walk.proofs.walk.shown.take_range.Given as goal

abbrev pub invariant-places : goal.invariant-places
invariant-places l = record {
  from : l.from ≤ l.place;
  bounded : l.place ≤ max l.from l.to;
  n : l.side.vertices ≡ l.initial.side.vertices;
  changed : (s : VertexSet) → l.initial.side ≡ listed l.initial.side.vertices s → l.side ≡ listed l.initial.side.vertices (minus s (has (elements_at l.order record { from = l.from; to = l.place })));
}

abbrev pub decreases-places : goal.decreases-places
decreases-places l = l.to - l.place
