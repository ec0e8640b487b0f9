use Rattle.vertex_set.proofs.Bits.{has_bit-remove}
use Rattle.vertex_set.proofs.words.clear_bit.Goals as goal

pub returns : goal.returns
returns c k = has_bit-remove c.args.words.now c.args.place k c.requires
