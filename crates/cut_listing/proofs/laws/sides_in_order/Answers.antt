use Rattle.cut_listing.proofs.Ordered.{sides_in_order}
use Rattle.cut_listing.proofs.laws.sides_in_order.Goals as goal

pub returns : goal.returns
returns c = sides_in_order
