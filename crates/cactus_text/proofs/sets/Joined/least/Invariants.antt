-- The labels stay, and the way goes on at nodes of one label.
use Rattle.std.proofs.Common.{◌≡◌, ◌<◌, ◌≤◌, ℕ, List, length, slice_index}
use Rattle.cactus_text.specs.Labels.{IsLabelled}
use Rattle.cactus_text.proofs.sets.Joined.least.Given as goal

abbrev pub invariant-climb : goal.invariant-climb
invariant-climb l = record {
  within : l.at < length l.self.above.items;
  same : length l.self.above.items ≡ length l.initial.self.above.items;
  down : (i : ℕ) → slice_index l.self.above.items i ≤ i;
  kept : (r : ℕ) → slice_index l.initial.self.above.items r ≡ r → slice_index l.self.above.items r ≡ r;
  labels : (labels : List ℕ) → IsLabelled l.initial.self.above.items labels → IsLabelled l.self.above.items labels;
  label : (labels : List ℕ) → IsLabelled l.initial.self.above.items labels → slice_index labels l.at ≡ slice_index labels l.node;
}

abbrev pub decreases-climb : goal.decreases-climb
decreases-climb l = l.at
