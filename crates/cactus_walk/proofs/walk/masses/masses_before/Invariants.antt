use Rattle.std.proofs.Common.{◌≡◌, ℕ, ◌+◌, ◌≤◌, length, get_or}
use Rattle.cactus_walk.specs.RangeMasses.{mass_before}
use Rattle.cactus_walk.proofs.walk.masses.masses_before.Given as goal

abbrev pub invariant-places : goal.invariant-places
invariant-places l = record {
  long : length l.masses.items ≡ l.vertex-index + 1;
  within : l.vertex-index ≤ length l.order;
  total : l.total ≡ mass_before l.weights l.order l.vertex-index;
  sums : (k : ℕ) → k ≤ l.vertex-index → get_or l.masses.items k 0 ≡ mass_before l.weights l.order k;
}
