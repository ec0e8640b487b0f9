-- The shares that are left are of regions that have not entered.
use Rattle.std.proofs.Common.{length}
use Rattle.std.specs.Prelude.{◌≢◌}
use Rattle.std.specs.List.{All, AllPairs}
use Rattle.region_sweep.specs.Shares.{IsSolvedShare}
use Rattle.region_sweep.specs.UnderWay.{IsUnderWay}
use Rattle.region_sweep.specs.declared.shares.Share.{Share}
use Rattle.region_sweep.proofs.ShareLaws.{HaveLeftBehind}
use Rattle.region_sweep.proofs.sweep.Sweep.graft_all.Given as goal

abbrev pub invariant-shares : goal.invariant-shares
invariant-shares l = record {
  under_way : IsUnderWay l.graph l.self;
  each : All (IsSolvedShare l.graph l.self.flow.labels) l.shares.items;
  apart : AllPairs (λ (p q : Share). p.region ≢ q.region) l.shares.items;
  left : HaveLeftBehind l.initial.self.flow.labels l.initial.shares.items l.shares.items l.self.flow.labels;
}

abbrev pub decreases-shares : goal.decreases-shares
decreases-shares l = length l.shares.items
