-- Each open vertex is in its list.
use Rattle.std.proofs.Common.{◌≡◌, length}
use Rattle.std.specs.List.{sum_by}
use Rattle.region_fronts.specs.Fronts.{IsCovered}
use Rattle.region_fronts.proofs.fronts.Fronts.next.Given as goal

abbrev pub invariant-loop-region : goal.invariant-loop-region
invariant-loop-region l = record {
  vertices : l.self.vertices ≡ l.graph.vertices;
  covered : IsCovered l.graph l.labels l.self;
}

abbrev pub decreases-loop-region : goal.decreases-loop-region
decreases-loop-region l = sum_by length l.self.lists
