use Rattle.scan_core.proofs.Winners.{law_of_winners}
use Rattle.scan_core.proofs.laws.winners.Goals as goal

pub returns : goal.returns
returns c = law_of_winners
