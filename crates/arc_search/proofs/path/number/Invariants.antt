use Rattle.arc_search.specs.Paths.{HasGiven}
use Rattle.arc_search.proofs.path.number.Given as goal

abbrev pub invariant-loop-place : goal.invariant-loop-place
invariant-loop-place l = HasGiven l.part l.stack l.from l.place l.fn.part_of l.part_of
