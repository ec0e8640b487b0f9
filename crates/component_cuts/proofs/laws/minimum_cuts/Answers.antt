use Rattle.component_cuts.proofs.Weightless.{law_of_minimum_cuts}
use Rattle.component_cuts.proofs.laws.minimum_cuts.Goals as goal

pub returns : goal.returns
returns c = law_of_minimum_cuts
