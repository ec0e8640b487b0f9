use Rattle.std.proofs.Common.{◌≡◌, ℕ, ◌+◌, ◌<◌, ◌≤◌, length}
use Rattle.std.specs.Prelude.{slice_index}
use Rattle.tree_flattening.specs.Arranged.{plan_of}
use Rattle.tree_flattening.specs.Walked.{size_below}
use Rattle.tree_flattening.proofs.walking.sizes_of.Given as goal

abbrev pub invariant-nodes : goal.invariant-nodes
invariant-nodes l = record {
  within : l.node ≤ (plan_of l.plan).count;
  len : length l.sizes.items ≡ (plan_of l.plan).count;
  each : (i : ℕ) → l.node ≤ i → i < (plan_of l.plan).count → slice_index l.sizes.items i ≡ 1 + size_below (plan_of l.plan) l.sizes.items i;
}

abbrev pub decreases-nodes : goal.decreases-nodes
decreases-nodes l = l.node
