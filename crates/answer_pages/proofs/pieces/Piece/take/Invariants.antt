-- The lines so far are among those that may be taken.
use Rattle.std.proofs.Common.{◌-◌, ◌≤◌}
use Rattle.answer_pages.proofs.pieces.Piece.take.Given as goal

abbrev pub invariant-lines : goal.invariant-lines
invariant-lines l = record {
  low : l.from ≤ l.end;
  high : l.end ≤ l.to;
}

abbrev pub decreases-lines : goal.decreases-lines
decreases-lines l = l.to - l.end
