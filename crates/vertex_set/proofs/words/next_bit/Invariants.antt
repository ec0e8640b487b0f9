use Rattle.std.proofs.Common.{◌*◌}
use Rattle.vertex_set.proofs.NextBit.{HasNoBit}
use Rattle.vertex_set.proofs.words.next_bit.Given as goal

abbrev pub invariant-loop-next : goal.invariant-loop-next
invariant-loop-next l = HasNoBit l.words l.from (l.next * 64)
