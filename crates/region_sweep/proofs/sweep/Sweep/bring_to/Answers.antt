-- A flow into an open vertex keeps all that holds between two steps.
use Rattle.region_sweep.proofs.UnderWay.{another_supply, flowed}
use Rattle.region_sweep.proofs.sweep.Sweep.bring_to.Goals as goal

pub returns-clause-under_way : goal.returns-clause-under_way
returns-clause-under_way c =
    let f = c.feed_past.ensures in
    another_supply c.args.graph.now _ c.after_feeding-self.result
    (flowed c.args.graph.now c.args.self.now c.feed_past.new.self c.args.v c.requires.under_way c.requires.open f.flow f.labels f.others)
