use Rattle.cactus_growth.proofs.Visits.{shared_more, shared_apart, shared_all, one_ends}
use Rattle.cactus_growth.proofs.ways.shared_steps.Goals as goal

pub steps-preserved : goal.steps-preserved
steps-preserved c = record {
  same = shared_more c.args.first.now c.args.second.now c.steps.i c.min-count.result _ c.is_same.result c.min-count.ensures c.steps-test.true c.steps.invariant.same c.is_same.ensures c.if-not-is_same.false;
}

pub returns-then-not-is_same-clause-apart : goal.returns-then-not-is_same-clause-apart
returns-then-not-is_same-clause-apart c = shared_apart c.args.first.now c.args.second.now c.steps.i _ c.is_same.result c.is_same.ensures c.if-not-is_same.true

pub returns-clause-same : goal.returns-clause-same
returns-clause-same c = shared_all c.args.first.now c.args.second.now c.steps.i c.min-count.result c.steps-test.false c.steps.auto.i-end c.steps.invariant.same

pub returns-clause-apart : goal.returns-clause-apart
returns-clause-apart c = one_ends c.args.first.now c.args.second.now c.min-count.result c.min-count.ensures
