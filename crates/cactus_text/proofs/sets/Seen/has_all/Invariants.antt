-- Whether all vertices so far are there.
use Rattle.std.proofs.Common.{◌≡◌, false, slice_index_or}
use Rattle.std.specs.List.{list_all, range_with_len}
use Rattle.cactus_text.proofs.sets.Seen.has_all.Given as goal

abbrev pub invariant-vertices : goal.invariant-vertices
invariant-vertices l = l.all ≡ list_all (λ v. slice_index_or l.self-inside.marks.items v false) (range_with_len 1 l.v)
