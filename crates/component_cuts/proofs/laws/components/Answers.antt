use Rattle.component_cuts.proofs.Counted.{law_of_components}
use Rattle.component_cuts.proofs.laws.components.Goals as goal

pub returns : goal.returns
returns c = law_of_components
