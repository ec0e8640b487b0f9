use Rattle.std.proofs.Common.{◌≡◌, ℕ, map}
use Rattle.rooted_cactus.specs.declared.tree.Node.{Node}
use Rattle.rooted_cactus.specs.declared.tree.Block.{Block}
use Rattle.rooted_cactus.specs.Entries.{top_first}
use Rattle.flat_cactus.specs.Flattened.{flat_of}
use Rattle.flat_cactus.proofs.Tasked.{completed}
use Rattle.tree_flattening.specs.Arranged.{plan_of}
use Rattle.tree_flattening.specs.Plans.{IsDrawn}
use Rattle.tree_flattening.proofs.Entering.{task_of}
use Rattle.tree_flattening.proofs.Weighing.{AreKnown, weights}
use Rattle.tree_flattening.proofs.walking.flatten_arranged.Given as goal

abbrev pub invariant-walk : goal.invariant-walk
invariant-walk l = record {
  within : AreKnown (plan_of l.plan) (top_first l.stack.items);
  whole : (node : ℕ → Node) (block : ℕ → Block) → IsDrawn (plan_of l.plan) node block → completed l.flat (map (task_of node block) (top_first l.stack.items)) ≡ flat_of (record { vertices = l.n; root = node 0 });
}

abbrev pub decreases-walk : goal.decreases-walk
decreases-walk l = weights (plan_of l.plan) l.sizes.items (top_first l.stack.items)
