-- The arcs so far stay in the region.
use Rattle.std.proofs.Common.{◌≡◌, get_or, take}
use Rattle.std.specs.List.{All}
use Rattle.weighted_graph.specs.declared.graph.Arc.{Arc}
use Rattle.region_fronts.proofs.fronts.is_open.Given as goal

abbrev pub invariant-loop-arc : goal.invariant-loop-arc
invariant-loop-arc l = All (λ (a : Arc). get_or l.labels a.to 0 ≡ l.region) (take l.arc-index l.row)
