use Rattle.std.proofs.Common.{◌≡◌, length}
use Rattle.tree_tests.proofs.sides.all_sides.Given as goal

abbrev pub invariant-sides : goal.invariant-sides
invariant-sides l = l.room.vertices ≡ l.walk.vertices

abbrev pub decreases-sides : goal.decreases-sides
decreases-sides l = length l.walk.to_come
