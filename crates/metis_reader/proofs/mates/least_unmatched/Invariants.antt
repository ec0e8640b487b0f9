use Rattle.std.proofs.Common.{length, ◌-◌, ◌+◌, ◌≡◌, IfNone, take}
use Rattle.metis_reader.proofs.Merge.{IsMergedTo}
use Rattle.metis_reader.proofs.mates.least_unmatched.Given as goal

abbrev pub invariant-loop-i : goal.invariant-loop-i
invariant-loop-i l = record {
  merged : IsMergedTo l.greater l.lesser l.i l.j l.found;
  same : IfNone l.found ((l.i ≡ l.j) × (take l.i l.greater ≡ take l.j l.lesser));
}

abbrev pub decreases-loop-i : goal.decreases-loop-i
decreases-loop-i l = (length l.greater - l.i) + (length l.lesser - l.j)
