-- One vertex more gets the label.
use Rattle.std.proofs.Common.{arith}
use Rattle.std.proofs.lemmas.List.{take_all}
use Rattle.region_flow.proofs.Severed.{relabelled_more}
use Rattle.region_flow.proofs.cutting.relabel.Goals as goal

pub loop-v-preserved : goal.loop-v-preserved
loop-v-preserved c = λ u.
    relabelled_more c.args.labels.now c.loop-v.labels c.args.moved.now c.args.fresh c.loop-v.v-index u c.loop-v-test.true
    (omega (arith, c.requires c.loop-v.v-index 0 c.loop-v-test.true)) (c.loop-v.invariant u)

pub returns : goal.returns
returns c = rw (take_all c.loop-v.v-index c.args.moved.now c.loop-v-test.false) at c.loop-v.invariant
