use Rattle.cut_definitions.proofs.WeightLaws.{weight-minus-minus as law}
use Rattle.cut_definitions.proofs.laws.differences.Goals as goal

pub returns : goal.returns
returns c = law
