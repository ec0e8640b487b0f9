use Rattle.std.proofs.Common.{◌≡◌, ◌∷◌, ◌+◌, take, length}
use Rattle.tree_flattening.specs.Arranged.{run_list}
use Rattle.tree_flattening.specs.Walked.{roots_at, sizes_at, with_ring}
use Rattle.tree_flattening.proofs.walking.add_cycle.Given as goal

abbrev pub invariant-members : goal.invariant-members
invariant-members l = record {
  flat : l.flat ≡ with_ring l.fn.flat (l.up ∷ roots_at l.sizes (length l.fn.flat.nodes) (take l.i (run_list l.run)));
  root : l.root ≡ length l.fn.flat.nodes + sizes_at l.sizes (take l.i (run_list l.run));
}
