-- What was marked before, and the way so far.
use Rattle.std.proofs.Common.{◌<◌, ◌-◌}
use Rattle.arc_search.specs.Way.{IsUp, IsMarkedWay}
use Rattle.arc_search.proofs.way.mark_way.Given as goal

abbrev pub invariant-loop-place : goal.invariant-loop-place
invariant-loop-place l = record {
  way : IsMarkedWay l.order l.parents (l.count - 1) l.fn.marks l.fn.touched.items l.marks l.touched.items;
  up : IsUp l.parents (l.count - 1) l.place;
  within : l.place < l.count;
}

abbrev pub decreases-loop-place : goal.decreases-loop-place
decreases-loop-place l = l.place
