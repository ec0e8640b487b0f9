use Rattle.rooted_cactus.proofs.Formula.{formula}
use Rattle.rooted_cactus.proofs.laws.number_by_blocks.Goals as goal

pub returns : goal.returns
returns c = formula
