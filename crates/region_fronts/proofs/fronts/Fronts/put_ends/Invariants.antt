-- The ends of the arcs so far are in their lists.
use Rattle.std.proofs.Common.{◌≡◌, take}
use Rattle.std.specs.List.{All}
use Rattle.weighted_graph.specs.declared.graph.Arc.{Arc}
use Rattle.region_fronts.specs.Fronts.{KeepsAll, AreApart}
use Rattle.region_fronts.proofs.fronts.Fronts.put_ends.Given as goal

abbrev pub invariant-loop-arc : goal.invariant-loop-arc
invariant-loop-arc l = record {
  vertices : l.self.vertices ≡ l.fn.self.vertices;
  kept : KeepsAll l.fn.self l.self;
  apart : All (λ (a : Arc). AreApart l.labels l.self l.v a.to) (take l.arc-index l.row);
}
