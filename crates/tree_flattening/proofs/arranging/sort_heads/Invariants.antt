-- The blocks below the nodes so far are sorted, and the others are as they were.
use Rattle.std.proofs.Common.{ℕ, ◌≡◌, ◌<◌, ◌≤◌, [], length}
use Rattle.std.specs.Prelude.{slice_index, slice_index_or}
use Rattle.std.specs.List.Sorted.{IsNonDecreasingBy, IsPermutation}
use Rattle.tree_flattening.proofs.arranging.sort_heads.Given as goal

abbrev pub invariant-nodes : goal.invariant-nodes
invariant-nodes l = record {
  len : length l.heads ≡ length l.initial.heads;
  moved : (i : ℕ) → i < l.node → IsPermutation (slice_index_or l.initial.heads i []) (slice_index_or l.heads i []);
  sorted : (i : ℕ) → i < l.node → IsNonDecreasingBy (slice_index l.blocks) (slice_index_or l.heads i []);
  others : (i : ℕ) → l.node ≤ i → slice_index_or l.heads i [] ≡ slice_index_or l.initial.heads i [];
}
