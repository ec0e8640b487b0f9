use Rattle.std.proofs.Common.{◌<◌, ◌≤◌}
use Rattle.std.specs.Prelude.{slice_index}
use Rattle.arc_search.proofs.look.join.Given as goal

abbrev pub invariant-loop-depth : goal.invariant-loop-depth
invariant-loop-depth l = record {
  fewer : l.depth ≤ l.fn.depth;
  next_not : l.depth < l.fn.depth → l.mark ≤ slice_index l.borders l.depth;
}

abbrev pub decreases-loop-depth : goal.decreases-loop-depth
decreases-loop-depth l = l.depth
