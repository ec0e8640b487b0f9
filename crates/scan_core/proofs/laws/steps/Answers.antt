use Rattle.scan_core.proofs.Opened.{law_of_steps}
use Rattle.scan_core.proofs.laws.steps.Goals as goal

pub returns : goal.returns
returns c = law_of_steps
