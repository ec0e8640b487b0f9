use Rattle.std.proofs.Common.{◌≡◌, ◌++◌, length, drop}
use Rattle.cactus_walk.specs.Repeats.{all_marks, is_between}
use Rattle.cactus_walk.proofs.walk.repeats.repeats_of.Given as goal

abbrev pub invariant-nodes : goal.invariant-nodes
invariant-nodes l = record {
  end : l.i-end ≡ length l.entries;
  appended : l.repeats.items ++ all_marks (is_between l.places l.entries) l.sizes l.i (drop l.i l.entries) ≡ all_marks (is_between l.places l.entries) l.sizes 0 l.entries;
}
