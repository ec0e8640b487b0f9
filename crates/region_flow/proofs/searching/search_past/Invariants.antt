-- The tree so far, and that no vertex but its root is fed more.
use Rattle.std.proofs.Common.{ℕ, ◌≡◌, ◌≢◌, ◌+◌, ◌-◌, ◌≤◌, length, get_or}
use Rattle.region_flow.specs.Regions.{IsFlowIn}
use Rattle.region_flow.specs.Tree.{IsTreeIn, IsPassed}
use Rattle.region_flow.proofs.searching.search_past.Given as goal

abbrev pub invariant-places : goal.invariant-places
invariant-places l = record {
  flow : IsFlowIn l.detour.task.graph.now l.detour.task.labels.now l.feed l.toward;
  tree : IsTreeIn l.detour.task.graph.now l.detour.task.labels.now l.tree;
  first : get_or l.tree.order.items 0 0 ≡ l.root;
  within : l.place ≤ length l.tree.order.items;
  passed : l.detour.past ≢ l.root → IsPassed l.detour.past l.fn.feed l.feed l.tree;
  others : (v : ℕ) → v ≢ l.root → get_or l.feed v 0 ≤ get_or l.fn.feed v 0;
}

abbrev pub decreases-places : goal.decreases-places
decreases-places l = (l.detour.task.graph.now.vertices + 1) - l.place
