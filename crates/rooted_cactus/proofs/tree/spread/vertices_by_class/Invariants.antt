use Rattle.std.proofs.Common.{◌≡◌, ℕ, ◌+◌, length}
use Rattle.rooted_cactus.specs.Spread.{group_at, class_of_first}
use Rattle.rooted_cactus.proofs.tree.spread.vertices_by_class.Given as goal

abbrev pub invariant-vertices : goal.invariant-vertices
invariant-vertices l = record {
  len : length l.lists ≡ l.last + 1;
  lists : (c : ℕ) → group_at l.lists c ≡ class_of_first l.classes l.i c;
}
