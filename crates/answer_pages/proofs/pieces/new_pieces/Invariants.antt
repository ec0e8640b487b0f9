-- There is a piece for each number so far.
use Rattle.std.proofs.Common.{◌≡◌, length}
use Rattle.answer_pages.proofs.pieces.new_pieces.Given as goal

abbrev pub invariant-pieces : goal.invariant-pieces
invariant-pieces l = length l.pieces.items ≡ l._i
