-- Those of the nodes so far are in the list.
use Rattle.std.proofs.Common.{◌≡◌, ◌≤◌, ◌-◌, length, not}
use Rattle.std.specs.List.{filter, range_with_len}
use Rattle.node_tree.specs.Flat.{is_follower}
use Rattle.tree_flattening.proofs.arranging.heads_in.Given as goal

abbrev pub invariant-nodes : goal.invariant-nodes
invariant-nodes l = record {
  low : 1 ≤ l.node;
  high : l.node - 1 ≤ length l.tree.uppers - 1;
  heads : l.heads.items ≡ filter (λ h. not (is_follower l.tree.follows h)) (range_with_len 1 (l.node - 1));
}
