-- The vertices so far are in the list.
use Rattle.std.proofs.Common.{◌≡◌}
use Rattle.std.specs.List.{range_with_len}
use Rattle.tree_flattening.proofs.arranging.vertices_to.Given as goal

abbrev pub invariant-vertices : goal.invariant-vertices
invariant-vertices l = l.vertices.items ≡ range_with_len 1 l.before
