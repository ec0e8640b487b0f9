use Rattle.component_cuts.proofs.Doubled.{law_of_number}
use Rattle.component_cuts.proofs.laws.number.Goals as goal

pub returns : goal.returns
returns c = law_of_number
