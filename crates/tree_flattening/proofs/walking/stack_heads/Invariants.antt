use Rattle.std.proofs.Common.{◌≡◌, ◌≤◌, ◌++◌, length, drop, map}
use Rattle.rooted_cactus.specs.Entries.{top_first}
use Rattle.tree_flattening.specs.Walked.{hang}
use Rattle.tree_flattening.proofs.walking.stack_heads.Given as goal

abbrev pub invariant-back : goal.invariant-back
invariant-back l = record {
  within : l.i ≤ length l.heads;
  stacked : top_first l.stack.items ≡ map (hang l.up) (drop l.i l.heads) ++ top_first l.initial.stack.items;
}

abbrev pub decreases-back : goal.decreases-back
decreases-back l = l.i
