use Rattle.std.proofs.Common.{◌≡◌, ◌++◌, drop, vec_capacity}
use Rattle.metis_reader.specs.Regions.{waiting_from}
use Rattle.metis_reader.proofs.waiting.put_back_waiting.Given as goal

abbrev pub invariant-loop-i : goal.invariant-loop-i
invariant-loop-i l = record {
  items : l.lesser.items ++ waiting_from l.i l.owners l.weights (drop l.i l.packed) ≡ l.initial.lesser.items ++ waiting_from 0 l.owners l.weights l.packed;
  capacity : vec_capacity l.lesser ≡ vec_capacity l.initial.lesser;
}
