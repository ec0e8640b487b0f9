-- The vertices so far are counted.
use Rattle.vertex_classes.proofs.Firsts.{IsCounted}
use Rattle.vertex_classes.proofs.numbering.count_firsts.Given as goal

abbrev pub invariant-loop-v : goal.invariant-loop-v
invariant-loop-v l = IsCounted l.parents l.v l.count
