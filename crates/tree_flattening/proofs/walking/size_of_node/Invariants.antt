use Rattle.std.proofs.Common.{◌≡◌, ◌+◌, take}
use Rattle.std.specs.List.{sum_by}
use Rattle.tree_flattening.specs.Arranged.{plan_of}
use Rattle.tree_flattening.specs.Walked.{sizes_at}
use Rattle.tree_flattening.proofs.walking.size_of_node.Given as goal

abbrev pub invariant-each : goal.invariant-each
invariant-each l = record {
  items : l.head-items ≡ (plan_of l.plan).heads l.node;
  size : l.size ≡ 1 + sum_by (λ h. sizes_at l.sizes ((plan_of l.plan).run h)) (take l.head-index l.head-items);
}
