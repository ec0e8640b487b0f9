-- All nodes after the first follow, up to those so far.
use Rattle.std.proofs.Common.{ℕ, ◌≡◌, ◌-◌, ◌<◌, ◌≤◌, true, length}
use Rattle.node_tree.specs.Flat.{is_follower}
use Rattle.tree_flattening.proofs.arrangement.Arranged.end_of_run.Given as goal

abbrev pub invariant-followers : goal.invariant-followers
invariant-followers l = record {
  after : l.head < l.end;
  within : l.end ≤ length l.self.tree.now.uppers;
  follow : (j : ℕ) → l.head < j → j < l.end → is_follower l.self.tree.now.follows j ≡ true;
}

abbrev pub decreases-followers : goal.decreases-followers
decreases-followers l = length l.self.tree.now.uppers - l.end
