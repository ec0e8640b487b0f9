-- A flow into a vertex keeps all that holds between two steps.
use Rattle.region_sweep.proofs.UnderWay.{another_surplus, flowed}
use Rattle.region_sweep.proofs.sweep.Sweep.feed_more.Goals as goal

pub returns-clause-under_way : goal.returns-clause-under_way
returns-clause-under_way c =
    let s = c.args.self.now in
    let f = c.flow-outcome.ensures in
    another_surplus c.args.graph.now (record s { flow = c.flow-outcome.new.self }) c.after-self.result
    (flowed c.args.graph.now s c.flow-outcome.new.self c.args.t c.requires.under_way c.requires.open f.flow f.labels f.others)
