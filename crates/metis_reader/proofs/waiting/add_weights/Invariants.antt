use Rattle.std.proofs.Common.{◌≡◌, ◌++◌, replicate, vec_capacity}
use Rattle.metis_reader.proofs.waiting.add_weights.Given as goal

abbrev pub invariant-loop-i : goal.invariant-loop-i
invariant-loop-i l = record {
  items : l.weights.items ≡ l.initial.weights.items ++ replicate l._i 1;
  capacity : vec_capacity l.weights ≡ vec_capacity l.initial.weights;
}
