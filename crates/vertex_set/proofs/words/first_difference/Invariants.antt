use Rattle.std.proofs.Common.{◌*◌}
use Rattle.vertex_set.proofs.Differing.{AreSameTo}
use Rattle.vertex_set.proofs.words.first_difference.Given as goal

abbrev pub invariant-loop-at : goal.invariant-loop-at
invariant-loop-at l = AreSameTo l.words l.others (l.at * 64)
