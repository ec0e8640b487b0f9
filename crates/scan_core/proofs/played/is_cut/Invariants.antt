use Rattle.std.proofs.Common.{◌≡◌, ℕ, ◌≤◌, true, false}
use Rattle.cut_definitions.specs.Weight.{HasVertex, complement}
use Rattle.cut_definitions.specs.Cuts.{has}
use Rattle.scan_core.proofs.played.is_cut.Given as goal

abbrev pub invariant-loop-i : goal.invariant-loop-i
invariant-loop-i l = record {
  member : l.some_in ≡ true → HasVertex l.side.vertices (has l.side.members);
  stranger : l.some_out ≡ true → HasVertex l.side.vertices (complement (has l.side.members));
  no_member : l.some_in ≡ false → (v : ℕ) → 1 ≤ v → v ≤ l.i → has l.side.members v ≡ false;
  no_stranger : l.some_out ≡ false → (v : ℕ) → 1 ≤ v → v ≤ l.i → has l.side.members v ≡ true;
}
