use Rattle.std.proofs.Common.{◌≡◌, ◌≤◌, ◌*◌, length}
use Rattle.std.specs.List.{filter, range_with_len}
use Rattle.vertex_set.specs.Side.{has_bit}
use Rattle.vertex_set.proofs.words.count_bits.Given as goal

abbrev pub invariant-loop-word : goal.invariant-loop-word
invariant-loop-word l = record {
  counted : l.count ≡ length (filter (has_bit l.words) (range_with_len 0 (l.word-index * 64)));
  small : l.count ≤ l.word-index * 64;
}
