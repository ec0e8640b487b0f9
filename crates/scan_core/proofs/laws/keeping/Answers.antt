use Rattle.scan_core.proofs.Opened.{law_of_keeping}
use Rattle.scan_core.proofs.laws.keeping.Goals as goal

pub returns : goal.returns
returns c = law_of_keeping
