-- The degrees so far are even.
use Rattle.std.proofs.Common.{◌≡◌, ◌<◌, ◌≤◌, ℕ}
use Rattle.std.specs.Prelude.{◌%◌}
use Rattle.cut_definitions.specs.Scan.{single}
use Rattle.cut_definitions.specs.Weight.{weight}
use Rattle.least_cut.proofs.sweep.has_even_degrees.Given as goal

abbrev pub invariant-loop-v : goal.invariant-loop-v
invariant-loop-v l = (u : ℕ) → 1 ≤ u → u < l.v → weight l.graph (single u) % 2 ≡ 0
