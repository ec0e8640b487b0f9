-- Each group so far has a number.
use Rattle.std.proofs.Common.{ℕ, ◌<◌, ◌≤◌, [], length}
use Rattle.std.specs.Prelude.{slice_index_or}
use Rattle.tree_flattening.proofs.arranging.are_filled.Given as goal

abbrev pub invariant-groups : goal.invariant-groups
invariant-groups l = (i : ℕ) → i < l.group → 1 ≤ length (slice_index_or l.groups i [])
