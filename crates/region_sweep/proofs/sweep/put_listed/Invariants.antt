-- The ends of the vertices of the parts so far stand in their lists.
use Rattle.std.proofs.Common.{◌≡◌, ◌≤◌, ℕ, get_or}
use Rattle.region_fronts.specs.Fronts.{KeepsAll, HasEnds}
use Rattle.region_sweep.proofs.sweep.put_listed.Given as goal

abbrev pub invariant-loop-before : goal.invariant-loop-before
invariant-loop-before l = record {
  vertices : l.fronts.vertices ≡ l.fn.fronts.vertices;
  kept : KeepsAll l.fn.fronts l.fronts;
  ends : (v : ℕ) → 1 ≤ get_or l.parts.numbers v 0 → get_or l.parts.numbers v 0 ≤ l.before → HasEnds l.graph l.flow.labels l.fronts v;
}
