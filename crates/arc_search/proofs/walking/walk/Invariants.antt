use Rattle.std.proofs.Common.{◌+◌, ◌*◌}
use Rattle.arc_search.specs.Marks.{unmarked}
use Rattle.arc_search.specs.Paths.{arcs_in_rows}
use Rattle.arc_search.proofs.Passing.{IsPassing}
use Rattle.arc_search.proofs.walking.walk.Given as goal

abbrev pub invariant-loop-height : goal.invariant-loop-height
invariant-loop-height g l =
    let s = g.A.StepArcs in
    IsPassing (s.vertices l.arcs) l.fn.parts (arcs_in_rows (s.rows l.arcs) (s.open_at l.arcs)) (s.goes l.arcs) l.fn.part_of l.fn.marks l.start l.parts l.part_of l.marks l.stack l.back l.next l.borders l.height l.depth l.current

-- each vertex is put on the path once, and between the current place goes back
abbrev pub decreases-loop-height : goal.decreases-loop-height
decreases-loop-height g l = unmarked l.marks * (2 * g.A.StepArcs.vertices l.arcs + 3) + (l.height + l.current)
