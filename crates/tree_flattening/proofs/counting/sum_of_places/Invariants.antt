-- The place of the last node so far, and the sum of the places so far.
use Rattle.std.proofs.Common.{◌≡◌, ◌≤◌, ◌-◌, ◌*◌, length}
use Rattle.tree_flattening.specs.Counted.{place_of, places_to}
use Rattle.tree_flattening.proofs.counting.sum_of_places.Given as goal

abbrev pub invariant-nodes : goal.invariant-nodes
invariant-nodes l = record {
  low : 1 ≤ l.node;
  high : l.node - 1 ≤ length l.tree.uppers - 1;
  place : l.place ≡ place_of l.tree.follows (l.node - 1);
  sum : l.sum ≡ places_to l.tree.follows (l.node - 1);
  few : l.place ≤ l.node - 1;
  small : l.sum ≤ 4194304 * (l.node - 1);
}
