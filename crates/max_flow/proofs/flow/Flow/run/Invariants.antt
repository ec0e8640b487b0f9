-- The flow so far.
use Rattle.std.proofs.Common.{◌≡◌, ◌-◌, None}
use Rattle.max_flow.specs.Flow.{HasSizesOf}
use Rattle.region_flow.specs.Residual.{IsFlow}
use Rattle.max_flow.proofs.flow.Flow.run.Given as goal

abbrev pub invariant-loop-amount : goal.invariant-loop-amount
invariant-loop-amount l = record {
  sizes : HasSizesOf l.self l.graph;
  flow : IsFlow l.graph l.s l.t l.amount l.self.toward;
  forgotten : l.self.best ≡ None;
}

abbrev pub decreases-loop-amount : goal.decreases-loop-amount
decreases-loop-amount l = l.stop - l.amount
