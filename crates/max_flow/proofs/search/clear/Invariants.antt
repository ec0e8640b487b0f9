-- A mark that is left is that of a later step.
use Rattle.std.proofs.Common.{ℕ, ◌≡◌, ◌<◌}
use Rattle.region_flow.specs.Marks.{order_mark}
use Rattle.max_flow.proofs.search.clear.Given as goal

abbrev pub invariant-loop-j : goal.invariant-loop-j
invariant-loop-j l = (v : ℕ) → 0 < order_mark l.marks v → (l.j < order_mark l.marks v) × (order_mark l.marks v ≡ order_mark l.initial.marks v)
