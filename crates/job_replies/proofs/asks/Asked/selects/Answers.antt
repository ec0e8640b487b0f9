-- The masses that are asked by are those of the vertices.
use Rattle.std.proofs.Common.{◌≡◌, length, sym, ◌∙◌, subst}
use Rattle.cut_listing.specs.Asks.{HasMasses}
use Rattle.job_replies.proofs.asks.Asked.selects.Goals as goal

pub balance_of-requires : goal.balance_of-requires
balance_of-requires c =
    let n = c.args.self.now.n in
    let have : length c.in-Least.weights.now ≡ n = subst (HasMasses n) c.in-Least.is c.args.self.now.masses in
    have ∙ sym c.if-n-self.false ∙ c.n.ensures.value
