use Rattle.component_cuts.proofs.Counted.{law_of_one_number}
use Rattle.component_cuts.proofs.laws.one_number.Goals as goal

pub returns : goal.returns
returns c = law_of_one_number
