use Rattle.std.proofs.Common.{ℕ, ◌≡◌, [], ◌∷◌, List, length}
use Rattle.cut_definitions.specs.Weight.{VertexSet}
use Rattle.rooted_cactus.specs.Entries.{Read, read_entries, top_first}
use Rattle.rooted_cactus.proofs.Makes.{Makes, Readied}
use Rattle.rooted_cactus.proofs.tree.put.put_together.Given as goal

abbrev pub invariant-up : goal.invariant-up
invariant-up g l = record {
  readied : Readied l.entries.items (length l.finished.items);
  makes : (sets : List ℕ → VertexSet) (r : Read) → g.M.Maker.may_read sets → read_entries sets l.fn.entries.items [] ≡ r ∷ [] → Makes sets (g.M.Maker.node_is sets) r l.entries.items (top_first l.finished.items);
  empty : l.row.items ≡ [];
}

abbrev pub decreases-up : goal.decreases-up
decreases-up g l = length l.entries.items
