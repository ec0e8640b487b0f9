use Rattle.std.proofs.Common.{◌≡◌, ◌++◌, length}
use Rattle.std.specs.List.Sorted.{IsPermutation}
use Rattle.metis_reader.specs.Meeting.{met_from}
use Rattle.metis_reader.specs.Regions.{waiting_from}
use Rattle.metis_reader.proofs.waiting.meet_waiting.Given as goal

abbrev pub invariant-loop-i : goal.invariant-loop-i
invariant-loop-i l = record {
  moved : IsPermutation (met_from 0 l.initial.cursors l.greater ++ waiting_from 0 l.owners l.weights l.initial.packed) (met_from 0 l.cursors l.greater ++ waiting_from 0 l.owners l.weights l.packed);
  left : l.left ≡ length (waiting_from 0 l.owners l.weights l.packed);
}
