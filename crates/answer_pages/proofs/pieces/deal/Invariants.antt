-- The next line is among those that may be dealt, and no piece so far is made.
use Rattle.std.proofs.Common.{◌≡◌, ◌≤◌, ◌<◌, false, get_or, ℕ}
use Rattle.answer_pages.specs.declared.pieces.Piece.{Piece}
use Rattle.answer_pages.proofs.pieces.deal.Given as goal

abbrev pub invariant-pieces : goal.invariant-pieces
invariant-pieces l = record {
  low : l.from ≤ l.next;
  high : l.next ≤ l.to;
  unmade : (k : ℕ) (d : Piece) → k < l.i → (get_or l.pieces k d).is_made ≡ false;
}
