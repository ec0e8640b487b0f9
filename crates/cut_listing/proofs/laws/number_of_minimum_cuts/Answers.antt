use Rattle.cut_listing.proofs.Numbered.{number_of_minimum_cuts}
use Rattle.cut_listing.proofs.laws.number_of_minimum_cuts.Goals as goal

pub returns : goal.returns
returns c = number_of_minimum_cuts
