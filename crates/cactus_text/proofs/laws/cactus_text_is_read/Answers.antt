use Rattle.cactus_text.proofs.Forms.{cactus_text_law}
use Rattle.cactus_text.proofs.laws.cactus_text_is_read.Goals as goal

pub returns : goal.returns
returns c = cactus_text_law
