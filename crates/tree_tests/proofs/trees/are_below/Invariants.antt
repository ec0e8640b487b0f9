use Rattle.std.proofs.Common.{◌≡◌, ◌<◌, ℕ, length, slice_index}
use Rattle.tree_tests.proofs.trees.are_below.Given as goal

abbrev pub invariant-each : goal.invariant-each
invariant-each l = record {
  end : l.i-end ≡ length l.numbers;
  below : (k : ℕ) → k < l.i → slice_index l.numbers k < l.count;
}
