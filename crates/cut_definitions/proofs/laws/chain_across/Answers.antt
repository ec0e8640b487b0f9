use Rattle.cut_definitions.proofs.ChainMade.{chain_across as law}
use Rattle.cut_definitions.proofs.laws.chain_across.Goals as goal

pub returns : goal.returns
returns c = law
