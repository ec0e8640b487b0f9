-- What is still seen stands at the places that are left.
use Rattle.std.proofs.Common.{◌≡◌, ℕ, true, length}
use Rattle.weighted_graph.specs.Searches.{is_seen}
use Rattle.arc_search.proofs.Finding.{StandsFrom}
use Rattle.arc_search.proofs.search.unmark.Given as goal

abbrev pub invariant-loop-j : goal.invariant-loop-j
invariant-loop-j l = record {
  long : length l.seen ≡ length l.fn.seen;
  stands : (v : ℕ) → is_seen l.seen v ≡ true → StandsFrom l.order l.j l.count v;
}
