-- The front is as contracts saw it.
use Rattle.std.proofs.Common.{◌≡◌}
use Rattle.least_cut.proofs.front.Front.put_heavy.Given as goal

abbrev pub invariant-loop-arc : goal.invariant-loop-arc
invariant-loop-arc l = l.self ≡ l.fn.self
