-- The nodes from the place on are different, and just they are marked.
use Rattle.std.proofs.Common.{◌≡◌, ◌==◌, ◌≤◌, ◌<◌, ℕ, true, length, slice_index, drop}
use Rattle.cut_definitions.specs.Cuts.{has}
use Rattle.cactus_text.specs.Reading.{distinct}
use Rattle.cactus_text.proofs.reading.are_different.Given as goal

abbrev pub invariant-back : goal.invariant-back
invariant-back l = record {
  within : l.i ≤ length l.nodes;
  count : length l.marks ≡ length l.initial.marks;
  different : distinct (drop l.i l.nodes) ≡ true;
  marked : (k : ℕ) → k < length l.marks → (slice_index l.marks k == l.cycle) ≡ has (drop l.i l.nodes) k;
  earlier : (k : ℕ) → slice_index l.marks k ≤ l.cycle;
}

abbrev pub decreases-back : goal.decreases-back
decreases-back l = l.i
