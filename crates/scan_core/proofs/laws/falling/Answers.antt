use Rattle.scan_core.proofs.Opened.{law_of_falling}
use Rattle.scan_core.proofs.laws.falling.Goals as goal

pub returns : goal.returns
returns c = law_of_falling
