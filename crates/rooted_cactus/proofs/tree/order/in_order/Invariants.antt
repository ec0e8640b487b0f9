use Rattle.std.proofs.Common.{◌≡◌, ◌++◌, length}
use Rattle.std.specs.List.{concat, flat_map}
use Rattle.rooted_cactus.specs.Entered.{entered}
use Rattle.rooted_cactus.specs.Numbers.{waiting}
use Rattle.rooted_cactus.specs.Places.{places_from}
use Rattle.rooted_cactus.proofs.Tallies.{nodes_to_come}
use Rattle.rooted_cactus.proofs.tree.order.in_order.Given as goal

abbrev pub invariant-walk : goal.invariant-walk
invariant-walk l = record {
  vertices : l.vertices.items ++ concat (flat_map entered (waiting l.stack.items)) ≡ concat (entered l.root);
  places : l.places.items ++ places_from (length l.vertices.items) (flat_map entered (waiting l.stack.items)) ≡ places_from 0 (entered l.root);
}

abbrev pub decreases-walk : goal.decreases-walk
decreases-walk l = nodes_to_come (waiting l.stack.items)
