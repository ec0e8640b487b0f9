use Rattle.std.proofs.Common.{◌≡◌, ◌≤◌, ◌++◌, length, drop, map}
use Rattle.rooted_cactus.specs.Entries.{top_first}
use Rattle.tree_flattening.specs.Arranged.{run_list}
use Rattle.tree_flattening.specs.declared.walking.Task.TheVariants.{Enter}
use Rattle.tree_flattening.proofs.walking.stack_run.Given as goal

abbrev pub invariant-back : goal.invariant-back
invariant-back l = record {
  within : l.i ≤ length (run_list l.run);
  stacked : top_first l.stack.items ≡ map Enter (drop l.i (run_list l.run)) ++ top_first l.initial.stack.items;
}

abbrev pub decreases-back : goal.decreases-back
decreases-back l = l.i
