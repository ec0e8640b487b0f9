-- The lines so far are short, and all are among those that there are.
use Rattle.std.proofs.Common.{ℕ, ◌-◌, ◌^◌, ◌<◌, ◌≤◌, length, min}
use Rattle.answer_pages.specs.Lines.{room_wanted, texts}
use Rattle.answer_pages.proofs.numbered_lines.Lines.next_long.Given as goal

abbrev pub invariant-lines : goal.invariant-lines
invariant-lines l = record {
  low : l.from ≤ l.i;
  high : l.i ≤ length (texts l.self);
  short : (j : ℕ) → l.from ≤ j → j < l.i → min (room_wanted l.self j) (2 ^ 64 - 1) ≤ l.room;
}

abbrev pub decreases-lines : goal.decreases-lines
decreases-lines l = l.count - l.i
