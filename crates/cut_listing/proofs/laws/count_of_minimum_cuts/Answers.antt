use Rattle.cut_listing.proofs.Ordered.{count_of_minimum_cuts}
use Rattle.cut_listing.proofs.laws.count_of_minimum_cuts.Goals as goal

pub returns : goal.returns
returns c = count_of_minimum_cuts
