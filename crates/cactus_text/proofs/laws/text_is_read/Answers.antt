use Rattle.cactus_text.proofs.Forms.{text_law}
use Rattle.cactus_text.proofs.laws.text_is_read.Goals as goal

pub returns : goal.returns
returns c = text_law
