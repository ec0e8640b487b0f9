use Rattle.std.proofs.Common.{◌≡◌, ℕ, ◌+◌, ◌<◌, get_or}
use Rattle.std.specs.Slots.{slots_items}
use lib.ListN.{get_elem?}
use mathlib.Core.Option.{some}
use Rattle.mark_board.proofs.words.copy_words.Given as goal

abbrev pub invariant-loop-k : goal.invariant-loop-k
invariant-loop-k l = (i : ℕ) → i < l.k → get_elem? (slots_items l.closed.words) (i + 1) ≡ some (get_or l.words i 0)
