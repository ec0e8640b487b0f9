-- None of the entries so far is another open vertex of the region.
use Rattle.std.proofs.Common.{◌-◌}
use Rattle.region_fronts.specs.Fronts.{list_at}
use Rattle.region_fronts.specs.Newest.{IsNoneFrom}
use Rattle.region_fronts.proofs.fronts.Fronts.newest_but.Given as goal

abbrev pub invariant-loop-back : goal.invariant-loop-back
invariant-loop-back l = IsNoneFrom l.graph l.labels l.t (list_at l.self.lists l.region) (l.count - l.back)
