-- A vertex that is its own parent counts.
use Rattle.std.proofs.Common.{arith}
use Rattle.vertex_classes.proofs.Firsts.{none_counted, counted_few, one_counted, one_passed, all_counted}
use Rattle.vertex_classes.proofs.numbering.count_firsts.Goals as goal
use Rattle.vertex_classes.proofs.numbering.count_firsts.Goals.{then-parents-v, else-parents-v}

pub loop-v-init : goal.loop-v-init
loop-v-init c = none_counted c.args.parents.now

pub overflow_add-count : goal.overflow_add-count
overflow_add-count c = omega (arith, counted_few c.args.parents.now c.loop-v.v c.loop-v.count c.loop-v.invariant, c.loop-v-test.true, c.requires.few)

pub loop-v-preserved : goal.loop-v-preserved
loop-v-preserved c =
    let ps = c.args.parents.now in
    elim c.if-parents-v.branch [
      | then-parents-v w ↦ rw w.count-is (one_counted ps c.loop-v.v c.loop-v.count c.loop-v.invariant w.if-parents-v.true)
      | else-parents-v w ↦ rw w.count-is (one_passed ps c.loop-v.v c.loop-v.count c.loop-v.invariant w.if-parents-v.false)
    ]

pub returns : goal.returns
returns c =
    all_counted c.args.parents.now c.loop-v.v c.loop-v.count c.requires.parents c.requires.apart c.loop-v.invariant (omega (arith, c.loop-v-test.false, c.loop-v.auto.v-end, c.requires.some))
