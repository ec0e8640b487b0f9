use Rattle.metis_reader.proofs.Ascending.{AscendsBelow}
use Rattle.metis_reader.proofs.mates.is_strict.Given as goal

abbrev pub invariant-loop-i : goal.invariant-loop-i
invariant-loop-i l = AscendsBelow l.edges l.i
