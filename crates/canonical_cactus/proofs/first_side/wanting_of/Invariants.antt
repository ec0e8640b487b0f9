use Rattle.std.proofs.Common.{◌≡◌, ℕ, ◌+◌, ◌<◌, length, slice_index}
use Rattle.canonical_cactus.proofs.first_side.wanting_of.Given as goal

abbrev pub invariant-loop-vertex : goal.invariant-loop-vertex
invariant-loop-vertex l = record {
  long : length l.wanting.items ≡ l.vertex-index;
  wanting : (p : ℕ) → p < l.vertex-index → slice_index l.wanting.items p + slice_index l.order p ≡ 4294967295;
}
