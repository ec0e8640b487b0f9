-- The result for all vertices is that for those to come.
use Rattle.std.proofs.Common.{◌≡◌, not, false, slice_index_or, drop}
use Rattle.std.specs.List.{list_all}
use Rattle.cactus_text.proofs.sets.Seen.has_none.Given as goal

abbrev pub invariant-vertices : goal.invariant-vertices
invariant-vertices l = list_all (λ v. not (slice_index_or l.self v false)) l.vertices ≡ list_all (λ v. not (slice_index_or l.self v false)) (drop l.i l.vertices)
