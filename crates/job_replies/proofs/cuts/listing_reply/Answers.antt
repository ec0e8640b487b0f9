use Rattle.std.proofs.Common.{◌^◌, refl, rules}
use Rattle.cut_listing.specs.Listings.{IsRefusal}
use Rattle.cut_listing.specs.declared.list_refusal.ListRefusal.TheVariants as refusal
use Rattle.job_replies.proofs.Graphs.{list_reply, list_stop}
use Rattle.job_replies.proofs.cuts.listing_reply.Goals as goal

pub returns-in-Ok-clause-text : goal.returns-in-Ok-clause-text
returns-in-Ok-clause-text c =
    list_reply c.args.graph.now c.args.solved c.args.ask c.args.graph.now.vertices c.in-Ok.sides.items c.minimum_cuts_in_order.ensures c.requires.solved refl c.in-Ok.ensures.list

pub returns-in-Err-TooLarge-clause-stop : goal.returns-in-Err-TooLarge-clause-stop
returns-in-Err-TooLarge-clause-stop c =
    let why : IsRefusal (2 ^ 30) c.args.graph.now.vertices c.args.ask c.args.solved.cactus (refusal.TooLarge c.in-Err-TooLarge.cuts c.in-Err-TooLarge.n) = search rules in
    list_stop c.args.graph.now c.args.solved c.args.ask c.args.graph.now.vertices c.in-Err-TooLarge.cuts c.in-Err-TooLarge.n c.count_of_minimum_cuts.ensures c.requires.solved refl why
