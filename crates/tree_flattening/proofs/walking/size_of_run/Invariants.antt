use Rattle.std.proofs.Common.{◌≡◌, ◌+◌, take}
use Rattle.tree_flattening.specs.Arranged.{run_list}
use Rattle.tree_flattening.specs.Walked.{sizes_at}
use Rattle.tree_flattening.proofs.walking.size_of_run.Given as goal

abbrev pub invariant-nodes : goal.invariant-nodes
invariant-nodes l = record { size : l.size ≡ l.before + sizes_at l.sizes (take l.i (run_list l.run)) }
