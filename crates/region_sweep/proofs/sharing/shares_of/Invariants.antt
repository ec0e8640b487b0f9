-- There is a share for each region before the next.
use Rattle.std.proofs.Common.{◌≡◌, map, take}
use Rattle.std.specs.List.{All}
use Rattle.region_sweep.specs.Shares.{IsShare}
use Rattle.region_sweep.specs.declared.shares.Share.{Share}
use Rattle.region_sweep.proofs.sharing.shares_of.Given as goal

abbrev pub invariant-loop-region : goal.invariant-loop-region
invariant-loop-region l = All (IsShare l.graph l.flow.labels) l.shares.items × (map (λ (s : Share). s.region) l.shares.items ≡ take l.region-index l.regions)
