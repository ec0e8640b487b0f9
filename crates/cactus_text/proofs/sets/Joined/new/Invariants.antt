use Rattle.std.proofs.Common.{◌≡◌, ◌≤◌, ◌<◌, ℕ, length, slice_index}
use Rattle.cactus_text.proofs.sets.Joined.new.Given as goal

abbrev pub invariant-nodes : goal.invariant-nodes
invariant-nodes l = record {
  count : length l.above.items ≡ l.i;
  down : (k : ℕ) → slice_index l.above.items k ≤ k;
  own : (k : ℕ) → k < l.i → slice_index l.above.items k ≡ k;
}
