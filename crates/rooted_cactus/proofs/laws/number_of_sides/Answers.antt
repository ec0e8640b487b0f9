use Rattle.rooted_cactus.proofs.Distinct.{number_of_sides}
use Rattle.rooted_cactus.proofs.laws.number_of_sides.Goals as goal

pub returns : goal.returns
returns c = number_of_sides
