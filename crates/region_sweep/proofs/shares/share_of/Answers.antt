-- One vertex after another gets its class.
use Rattle.std.proofs.Common.{ℕ, eqb, ap, arith}
use Rattle.region_sweep.proofs.ShareLaws.{are_labels, classes_start, classes_step, share_is}
use Rattle.region_sweep.proofs.shares.share_of.Goals as goal

pub loop-before-init : goal.loop-before-init
loop-before-init c = rw (c.new-own.ensures.items, c.in_ok-classes.ensures.items) (classes_start c.args.flow.now.labels c.args.region)

pub loop-before-preserved : goal.loop-before-preserved
loop-before-preserved c =
    classes_step c.args.flow.now.labels c.args.region c.loop-before.before c.loop-before.own.items c.add_class.new.own.items c.loop-before.classes.items c.add_class.new.classes.items _
    c.loop-before.invariant (ap (λ (k : ℕ). eqb k c.args.region) c.label.ensures) c.in_ok-add_class.ensures

pub from_list-requires-clause-labels : goal.from_list-requires-clause-labels
from_list-requires-clause-labels c =
    are_labels c.args.flow.now.labels c.args.region c.loop-before.before c.loop-before.own.items c.loop-before.classes.items c.loop-before.invariant
    (omega (arith, c.requires.some, c.n-n.ensures.value, c.loop-before-test.false)) (λ e. omega (arith, e, c.requires.root, c.requires.outside))

pub returns-clause-share : goal.returns-clause-share
returns-clause-share c =
    share_is c.args.graph.now c.args.flow.now.labels c.loop-before.classes.items _ c.loop-before.before c.from_list.ensures
    (omega (arith, c.n-n.ensures.value, c.loop-before-test.false, c.loop-before.auto.before-end)) c.requires.some c.requires.root c.requires.outside c.loop-before.invariant
