use Rattle.std.proofs.Common.{◌≡◌, ◌≤◌, ◌++◌, take}
use Rattle.std.specs.Prelude.{vec_capacity}
use Rattle.metis_reader.specs.Meeting.{met_from}
use Rattle.metis_reader.proofs.mates.put_back.Given as goal

abbrev pub invariant-loop-i : goal.invariant-loop-i
invariant-loop-i l = record {
  items : l.lesser.items ≡ l.initial.lesser.items ++ met_from 0 l.cursors (take l.i l.greater);
  room : vec_capacity l.initial.lesser ≤ vec_capacity l.lesser;
}
