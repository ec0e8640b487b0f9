use Rattle.std.proofs.Common.{◌-◌, ◌≤◌, length}
use Rattle.arc_search.specs.Paths.{arcs_in_rows, IsLooking}
use Rattle.arc_search.proofs.look.look.Given as goal

abbrev pub invariant-loop-place : goal.invariant-loop-place
invariant-loop-place g l = record {
  looking : IsLooking (arcs_in_rows (g.A.StepArcs.rows l.arcs) (g.A.StepArcs.open_at l.arcs)) l.v l.fn.from.place l.part_of l.marks l.borders l.fn.from.depth l.place l.depth;
  within : l.fn.from.place ≤ length l.row → l.place ≤ length l.row;
}

abbrev pub decreases-loop-place : goal.decreases-loop-place
decreases-loop-place g l = length l.row - l.place
