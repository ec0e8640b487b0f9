-- The vertices so far have the number.
use Rattle.std.proofs.Common.{ℕ, ◌≡◌, take, get_or}
use Rattle.std.specs.Prelude.{if◌then◌else◌}
use Rattle.cut_definitions.specs.Cuts.{has}
use Rattle.arc_search.proofs.side_listing.write.Given as goal

abbrev pub invariant-loop-v : goal.invariant-loop-v
invariant-loop-v l = (v : ℕ) → get_or l.numbers v 0 ≡ (if has (take l.v-index l.vertices) v then l.number else get_or l.initial.numbers v 0)
