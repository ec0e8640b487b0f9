-- The tree so far, and that every arc so far is followed.
use Rattle.std.proofs.Common.{◌<◌, take}
use Rattle.std.specs.List.{All}
use Rattle.region_flow.specs.Closed.{residual_on}
use Rattle.region_flow.specs.Marks.{order_mark}
use Rattle.max_flow.specs.Tree.{Extends}
use Rattle.max_flow.proofs.search.expand.Given as goal

abbrev pub invariant-loop-arc : goal.invariant-loop-arc
invariant-loop-arc l = record {
  extends : Extends l.graph l.toward l.initial.marks l.initial.steps l.initial.count l.marks l.steps l.count;
  expanded : All (λ a. 0 < residual_on l.from.vertex l.toward a → 0 < order_mark l.marks a.to) (take l.arc-index l.row);
}
