use Rattle.std.proofs.Common.{ℕ, ◌≤◌, ◌<◌, ◌-◌, length}
use Rattle.std.specs.Prelude.{slice_index}
use Rattle.cactus_merge.proofs.node.smaller.Given as goal

abbrev pub invariant-smaller : goal.invariant-smaller
invariant-smaller l = record {
  within : l.place ≤ length l.list;
  before : (k : ℕ) → k < l.place → slice_index l.list k < l.vertex;
}

abbrev pub decreases-smaller : goal.decreases-smaller
decreases-smaller l = length l.list - l.place
