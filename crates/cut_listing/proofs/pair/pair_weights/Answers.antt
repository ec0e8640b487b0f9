-- The two masses that were written into none.
use Rattle.std.proofs.Common.{arith}
use Rattle.std.proofs.lemmas.Grind.{common_steps}
use Rattle.cut_listing.proofs.pair.pair_weights.Goals as goal

pub returns : goal.returns
returns c = grind (arith, common_steps)
