-- The further marks are those of vertices that are not there.
use Rattle.std.proofs.Common.{◌≡◌, ◌+◌, ◌-◌, ℕ, false, length, slice_index_or}
use Rattle.cactus_text.proofs.sets.Seen.insert.Given as goal

abbrev pub invariant-grow : goal.invariant-grow
invariant-grow l = (u : ℕ) → slice_index_or l.self-inside.marks.items u false ≡ slice_index_or l.initial.self-inside.marks.items u false

abbrev pub decreases-grow : goal.decreases-grow
decreases-grow l = l.place + 1 - length l.self-inside.marks.items
