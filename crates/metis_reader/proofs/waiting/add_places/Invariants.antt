use Rattle.std.proofs.Common.{◌≡◌, ◌++◌, replicate, vec_capacity}
use Rattle.metis_reader.proofs.waiting.add_places.Given as goal

abbrev pub invariant-loop-i : goal.invariant-loop-i
invariant-loop-i l = record {
  items : l.packed.items ≡ l.initial.packed.items ++ replicate l._i 0;
  capacity : vec_capacity l.packed ≡ vec_capacity l.initial.packed;
}
