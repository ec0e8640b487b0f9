use Rattle.vertex_set.proofs.Bits.{has_bit-flip_within}
use Rattle.vertex_set.proofs.words.flip_within.Goals as goal

pub returns : goal.returns
returns c k =
    has_bit-flip_within c.args.words.now c.flip_words.new.words c.clear_bit.new.words c.clear_from.new.words c.args.end k c.requires
    c.flip_words.ensures.flipped c.flip_words.ensures.fits (c.clear_bit.ensures k) (c.clear_from.ensures k)
