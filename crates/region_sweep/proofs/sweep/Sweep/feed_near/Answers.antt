-- Flows into open vertices keep all that holds between two steps.
use Rattle.std.proofs.Common.{List, ℕ, sym, ◌∙◌, subst}
use Rattle.cut_definitions.specs.Regions.{IsOpenAt}
use Rattle.region_sweep.proofs.UnderWay.{flowed}
use Rattle.region_sweep.proofs.sweep.Sweep.feed_near.Goals as goal

pub feed_beside-requires-clause-under_way : goal.feed_beside-requires-clause-under_way
feed_beside-requires-clause-under_way c =
    let f = c.flow-fed.ensures in
    flowed c.args.graph.now c.args.self.now c.flow-fed.new.self c.args.t c.requires.under_way c.requires.open f.flow f.labels f.others

pub feed_beside-requires-clause-open : goal.feed_beside-requires-clause-open
feed_beside-requires-clause-open c = subst (λ (l : List ℕ). IsOpenAt c.args.graph.now l c.args.t) (sym c.flow-fed.ensures.labels) c.requires.open

pub feed_newest-requires-clause-open : goal.feed_newest-requires-clause-open
feed_newest-requires-clause-open c =
    subst (λ (l : List ℕ). IsOpenAt c.args.graph.now l c.args.t) (sym (c.feed_beside.ensures.labels ∙ c.flow-fed.ensures.labels)) c.requires.open
