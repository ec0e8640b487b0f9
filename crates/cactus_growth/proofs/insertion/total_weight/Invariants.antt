use Rattle.std.proofs.Common.{◌≡◌, take}
use Rattle.std.specs.List.{sum_by}
use Rattle.cactus_growth.proofs.insertion.total_weight.Given as goal

abbrev pub invariant-edges : goal.invariant-edges
invariant-edges l = l.weight ≡ sum_by (λ d. d.w) (take l.edge-index l.edges)
