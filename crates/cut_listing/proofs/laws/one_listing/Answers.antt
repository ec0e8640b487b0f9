use Rattle.cut_listing.proofs.Ordered.{one_listing}
use Rattle.cut_listing.proofs.laws.one_listing.Goals as goal

pub returns : goal.returns
returns c = one_listing
