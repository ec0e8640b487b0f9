use Rattle.cut_definitions.proofs.MinimumSides.{minimum_sides as law}
use Rattle.cut_definitions.proofs.laws.minimum_sides.Goals as goal

pub returns : goal.returns
returns c = law
