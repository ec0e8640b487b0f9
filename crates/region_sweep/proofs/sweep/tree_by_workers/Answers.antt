-- The tree has all minimum cuts.
use Rattle.region_sweep.proofs.sweep.tree_by_workers.Goals as goal

pub returns : goal.returns
returns g c = c.into_tree-tree.ensures c.in_ok-done.ensures.under_way c.in_ok-done.ensures.all
