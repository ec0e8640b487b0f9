use Rattle.vertex_set.proofs.Bits.{has_bit-clear_from}
use Rattle.vertex_set.proofs.words.clear_from.Goals as goal

pub returns : goal.returns
returns c k = has_bit-clear_from c.args.words.now c.args.end k c.requires
