use Rattle.cactus_text.proofs.Unique.{stated_law}
use Rattle.cactus_text.proofs.laws.stated_is_well_formed.Goals as goal

pub returns : goal.returns
returns c = stated_law
