-- The least so far stands for the nodes so far.
use Rattle.std.proofs.Common.{◌≡◌, ◌≤◌, ◌-◌, ◌∷◌, length, map}
use Rattle.std.specs.Prelude.{slice_index}
use Rattle.cut_definitions.specs.Cuts.{least}
use Rattle.tree_flattening.specs.Plans.{run_of}
use Rattle.tree_flattening.proofs.Following.{rest_from}
use Rattle.tree_flattening.proofs.leasts.least_of_block.Given as goal

abbrev pub invariant-followers : goal.invariant-followers
invariant-followers l = record {
  within : l.node ≤ length l.tree.uppers;
  least : least (map (slice_index l.nodes) (run_of l.tree l.head)) ≡ least (l.least ∷ map (slice_index l.nodes) (rest_from l.tree l.node));
}

abbrev pub decreases-followers : goal.decreases-followers
decreases-followers l = length l.tree.uppers - l.node
