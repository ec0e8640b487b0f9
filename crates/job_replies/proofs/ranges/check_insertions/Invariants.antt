-- The vertices of the insertions so far are there.
use Rattle.std.proofs.Common.{take}
use Rattle.job_replies.specs.Jobs.{AreInRange}
use Rattle.job_replies.proofs.ranges.check_insertions.Given as goal

abbrev pub invariant-insertions : goal.invariant-insertions
invariant-insertions l = AreInRange l.n (take l.i l.insertions)
