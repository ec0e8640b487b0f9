-- If no side still to come is empty, none is.
use Rattle.std.proofs.Common.{◌≡◌, ◌<◌, length}
use Rattle.std.specs.List.{All}
use Rattle.rooted_cactus.specs.Different.{HasNoEmptySide}
use Rattle.tree_tests.proofs.trees.has_no_empty_side.Given as goal

abbrev pub invariant-sides : goal.invariant-sides
invariant-sides l = record {
  room : l.room.vertices ≡ l.walk.vertices;
  none : All (λ side. 0 < length side) l.walk.to_come → HasNoEmptySide l.cactus;
}

abbrev pub decreases-sides : goal.decreases-sides
decreases-sides l = length l.walk.to_come
