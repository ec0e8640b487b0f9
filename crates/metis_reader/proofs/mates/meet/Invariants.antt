use Rattle.std.proofs.Common.{◌≤◌, ◌++◌, take, drop}
use Rattle.std.specs.List.Sorted.{IsPermutation}
use Rattle.metis_reader.specs.Meeting.{with_met}
use Rattle.metis_reader.proofs.mates.meet.Given as goal

abbrev pub invariant-loop-i : goal.invariant-loop-i
invariant-loop-i l = record {
  from : l.strays ≤ l.left;
  behind : l.left ≤ l.i;
  moved : IsPermutation (with_met l.greater l.initial.cursors l.initial.lesser) (with_met l.greater l.cursors (take l.left l.lesser ++ drop l.i l.lesser));
}
