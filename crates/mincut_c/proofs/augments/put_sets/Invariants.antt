use Rattle.std.proofs.Common.{◌≡◌, ℕ, ◌<◌, get_or}
use Rattle.mincut_c.proofs.SetNumbers.{TellsSetsTo}
use Rattle.mincut_c.proofs.augments.put_sets.Given as goal

abbrev pub invariant-none : goal.invariant-none
invariant-none l = (v : ℕ) → v < l.v → get_or l.set_of v 0 ≡ 0

abbrev pub invariant-sets : goal.invariant-sets
invariant-sets l = TellsSetsTo l.n l.k l.plan.sets l.set_of
