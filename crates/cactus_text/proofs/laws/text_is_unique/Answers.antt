use Rattle.cactus_text.proofs.Unique.{unique_law}
use Rattle.cactus_text.proofs.laws.text_is_unique.Goals as goal

pub returns : goal.returns
returns c = unique_law
