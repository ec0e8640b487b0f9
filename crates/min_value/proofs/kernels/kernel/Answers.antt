use Rattle.min_value.proofs.Kept.{value_of_small}
use Rattle.min_value.proofs.kernels.kernel.Goals as goal

pub closing-init : goal.closing-init
closing-init g c = c.in_ok-kept.ensures

pub closing-preserved : goal.closing-preserved
closing-preserved g c = c.in_ok-close_once.ensures.kept c.args.graph.now c.closing.invariant

pub closing-smaller : goal.closing-smaller
closing-smaller g c = c.in_ok-close_once.ensures.fewer c.if-branch.true

pub close_once-requires-clause-enough : goal.close_once-requires-clause-enough
close_once-requires-clause-enough g c κs within = c.closing.invariant.enough

pub close_once-requires-clause-value : goal.close_once-requires-clause-value
close_once-requires-clause-value g c κs within = value_of_small c.args.graph.now c.closing.kept.graph c.closing.kept.value c.closing.kept.labels c.closing.invariant

pub close_once-requires-clause-counted : goal.close_once-requires-clause-counted
close_once-requires-clause-counted g c κs within = c.closing.invariant.counted

pub returns-clause-value : goal.returns-clause-value
returns-clause-value g c = (c.in_ok-close_once.ensures.kept c.args.graph.now c.closing.invariant).is_value

pub returns-clause-kernel_value : goal.returns-clause-kernel_value
returns-clause-kernel_value g c = (c.in_ok-close_once.ensures.kept c.args.graph.now c.closing.invariant).same_value

pub returns-clause-labels : goal.returns-clause-labels
returns-clause-labels g c = (c.in_ok-close_once.ensures.kept c.args.graph.now c.closing.invariant).labelled

pub returns-clause-minimum_cuts : goal.returns-clause-minimum_cuts
returns-clause-minimum_cuts g c = (c.in_ok-close_once.ensures.kept c.args.graph.now c.closing.invariant).minimum_cuts

pub returns-clause-counted : goal.returns-clause-counted
returns-clause-counted g c = (c.in_ok-close_once.ensures.kept c.args.graph.now c.closing.invariant).counted

pub returns-clause-closed : goal.returns-clause-closed
returns-clause-closed g c = c.in_ok-close_once.ensures.closed c.if-branch.false

pub returns-clause-light : goal.returns-clause-light
returns-clause-light g c = c.in_ok-close_once.ensures.light c.if-branch.false
