use Rattle.std.proofs.Common.{◌≡◌, ◌++◌, replicate, vec_capacity}
use Rattle.metis_reader.proofs.mass_list.write_ones.Given as goal

abbrev pub invariant-loop-i : goal.invariant-loop-i
invariant-loop-i l = record {
  items : l.masses.items ≡ l.initial.masses.items ++ replicate l._i 1;
  capacity : vec_capacity l.masses ≡ vec_capacity l.initial.masses;
}
