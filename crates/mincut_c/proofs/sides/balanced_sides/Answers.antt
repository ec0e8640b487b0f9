use Rattle.cut_listing.specs.declared.ask.Ask.TheVariants.{Least}
use Rattle.mincut_c.proofs.Listing.{listed}
use Rattle.mincut_c.proofs.sides.balanced_sides.Goals as goal

pub returns : goal.returns
returns c = λ g s.
    listed g c.args.solved.now (Least c.args.least c.args.weights) s c.minimum_cuts_in_order.ensures c.count_of_minimum_cuts.ensures c.list_balanced.result c.list_balanced.ensures.list c.list_balanced.ensures.refusal
