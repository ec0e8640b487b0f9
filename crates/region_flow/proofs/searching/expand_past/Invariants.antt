-- The tree so far.
use Rattle.std.proofs.Common.{ℕ, ◌≡◌, ◌≢◌, ◌<◌, ◌≤◌, get_or}
use Rattle.region_flow.specs.Marks.{order_mark}
use Rattle.region_flow.specs.Regions.{IsFlowIn}
use Rattle.region_flow.specs.Tree.{IsTreeIn, ExtendsTree, IsPassed}
use Rattle.region_flow.proofs.searching.expand_past.Given as goal

abbrev pub invariant-loop-arc : goal.invariant-loop-arc
invariant-loop-arc l = record {
  flow : IsFlowIn l.detour.task.graph.now l.detour.task.labels.now l.feed l.toward;
  tree : IsTreeIn l.detour.task.graph.now l.detour.task.labels.now l.tree;
  wanting : get_or l.feed (get_or l.initial.tree.order.items 0 0) 0 < l.detour.task.stop;
  extends : ExtendsTree l.initial.tree l.tree;
  passed : order_mark l.initial.tree.marks.items l.detour.past ≡ 0 → IsPassed l.detour.past l.initial.feed l.feed l.tree;
  others : (v : ℕ) → v ≢ get_or l.initial.tree.order.items 0 0 → get_or l.feed v 0 ≤ get_or l.initial.feed v 0;
}
