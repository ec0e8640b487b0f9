use Rattle.std.proofs.Common.{◌+◌}
use Rattle.cut_listing.specs.declared.ask.Ask.TheVariants.{Parting}
use Rattle.mincut_c.proofs.Listing.{listed}
use Rattle.mincut_c.proofs.sides.separating_sides.Goals as goal

pub returns : goal.returns
returns c = λ g s.
    listed g c.args.solved.now (Parting (c.args.a + 1) (c.args.b + 1)) s c.minimum_cuts_in_order.ensures c.count_of_minimum_cuts.ensures c.list_parting.result c.list_parting.ensures.list c.list_parting.ensures.refusal
