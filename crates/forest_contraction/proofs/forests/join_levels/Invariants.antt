-- The levels so far have joined the two.
use Rattle.std.proofs.Common.{◌≡◌, ℕ, ◌<◌, ◌≤◌, length}
use Rattle.std.specs.Prelude.{◌⊎◌}
use Rattle.vertex_classes.specs.Classes.{HasJoined}
use Rattle.forest_contraction.specs.Forests.{level}
use Rattle.forest_contraction.proofs.forests.join_levels.Given as goal

abbrev pub invariant-loop-l : goal.invariant-loop-l
invariant-loop-l l = record {
  count : length l.levels ≡ length l.fn.levels;
  inside : (k : ℕ) → l.fn.first ≤ k → k < l.l → HasJoined (level l.fn.levels k) (level l.levels k) l.fn.u l.fn.v;
  outside : (k : ℕ) → (k < l.fn.first) ⊎ (l.l ≤ k) → level l.levels k ≡ level l.fn.levels k;
}
