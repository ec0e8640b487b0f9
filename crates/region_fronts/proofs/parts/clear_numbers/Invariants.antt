-- The vertices so far have no number, and none has a greater one.
use Rattle.std.proofs.Common.{◌≡◌, ℕ, ◌<◌, ◌≤◌, get_or}
use Rattle.region_fronts.specs.declared.parts.Placed.{Placed}
use Rattle.region_fronts.proofs.parts.clear_numbers.Given as goal

abbrev pub invariant-loop-p : goal.invariant-loop-p
invariant-loop-p l = record {
  fewer : (v : ℕ) → get_or l.numbers v 0 ≤ get_or l.fn.numbers v 0;
  cleared : (k : ℕ) (d : Placed) → k < l.p-index → get_or l.numbers (get_or l.placed k d).vertex 0 ≡ 0;
}
