use Rattle.std.proofs.Common.{◌==◌, ◌&&◌, ap, ◌∙◌, rules}
use Rattle.std.proofs.lemmas.Fn.{filter_same}
use Rattle.vertex_set.specs.Side.{VertexList, members_of}
use Rattle.cut_listing.specs.Asks.{lets}
use Rattle.cut_listing.proofs.Asked.{within_masses}
use Rattle.cut_listing.proofs.Passes.{selected}
use Rattle.job_replies.proofs.asks.select_asked.Goals as goal

pub invariant_of-asked : goal.invariant_of-asked
invariant_of-asked c = record { masses = within_masses c.args.n c.args.ask c.requires.within }

pub returns : goal.returns
returns c =
    let n = c.args.n in
    let ask = c.args.ask in
    ap members_of (filter_same _ (λ (s : VertexList). (s.vertices == n) && lets ask s.members) _ (λ x b f' k. search rules) _ _ c.retain.ensures.filtered)
    ∙ selected n (lets ask) c.args.sides.items c.requires.over_n
