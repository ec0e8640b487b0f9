-- What was taken out has another label.
use Rattle.std.proofs.Common.{◌≡◌, ◌≢◌, ℕ, ◌≤◌, length, take}
use Rattle.region_fronts.specs.Fronts.{list_at, KeepsFronts}
use Rattle.region_fronts.proofs.fronts.Fronts.read.Given as goal

abbrev pub invariant-loop-self : goal.invariant-loop-self
invariant-loop-self l = record {
  vertices : l.self.vertices ≡ l.fn.self.vertices;
  before : take l.place (list_at l.self.lists l.region) ≡ take l.place (list_at l.fn.self.lists l.region);
  no_longer : length (list_at l.self.lists l.region) ≤ length (list_at l.fn.self.lists l.region);
  others : (other : ℕ) → other ≢ l.region → list_at l.self.lists other ≡ list_at l.fn.self.lists other;
  kept : KeepsFronts l.labels l.fn.self l.self;
}

abbrev pub decreases-loop-self : goal.decreases-loop-self
decreases-loop-self l = length (list_at l.self.lists l.region)
