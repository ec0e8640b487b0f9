-- The vertices from the place on are in.
use Rattle.std.proofs.Common.{◌≡◌, ◌||◌, ◌≤◌, ℕ, false, length, slice_index_or, drop}
use Rattle.cut_definitions.specs.Cuts.{has}
use Rattle.cactus_text.proofs.sets.Seen.add.Given as goal

abbrev pub invariant-back : goal.invariant-back
invariant-back l = record {
  within : l.i ≤ length l.vertices;
  set : (u : ℕ) → slice_index_or l.self u false ≡ (has (drop l.i l.vertices) u || slice_index_or l.initial.self u false);
}

abbrev pub decreases-back : goal.decreases-back
decreases-back l = l.i
