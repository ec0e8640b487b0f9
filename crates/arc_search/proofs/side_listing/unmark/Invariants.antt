-- The vertices so far have no mark.
use Rattle.std.proofs.Common.{ℕ, ◌≡◌, take, false}
use Rattle.std.specs.Prelude.{if◌then◌else◌}
use Rattle.cut_definitions.specs.Cuts.{has}
use Rattle.weighted_graph.specs.Searches.{is_seen}
use Rattle.arc_search.proofs.side_listing.unmark.Given as goal

abbrev pub invariant-loop-v : goal.invariant-loop-v
invariant-loop-v l = (v : ℕ) → is_seen l.marks v ≡ (if has (take l.v-index l.vertices) v then false else is_seen l.initial.marks v)
