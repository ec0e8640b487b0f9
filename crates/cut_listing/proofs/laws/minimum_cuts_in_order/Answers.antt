use Rattle.cut_listing.proofs.Ordered.{minimum_cuts_in_order}
use Rattle.cut_listing.proofs.laws.minimum_cuts_in_order.Goals as goal

pub returns : goal.returns
returns c = minimum_cuts_in_order
