-- Each vertex gets the number of its parent, or the next one.
use Rattle.std.proofs.Common.{◌≡◌, ◌-◌, ◌<◌, get_or, length, refl, ◌∙◌, arith}
use Rattle.std.proofs.lemmas.List.{get_or_default}
use Rattle.vertex_classes.proofs.Numbered.{none_numbered, numbered_as, numbered_next, numbered_labels, numbers_of}
use Rattle.vertex_classes.proofs.numbering.class_numbers.Goals as goal
use Rattle.vertex_classes.proofs.numbering.class_numbers.Goals.{then-parent-ge1+then-parent-v+in_ok-push, else-parent-ge1+in_ok-push-2, else-parent-ge1-via-then-parent-ge1+else-parent-v, else-parent-ge1-via-else-parent-ge1}

pub loop-v-init : goal.loop-v-init
loop-v-init c = rw c.in_ok-numbers.ensures.items (none_numbered c.args.parents.now)

pub loop-v-preserved : goal.loop-v-preserved
loop-v-preserved c =
    let ps = c.args.parents.now in
    let xs = c.loop-v.numbers.items in
    let v = c.loop-v.v in
    elim c.if-parent-ge1.branch [
      | then-parent-ge1+then-parent-v+in_ok-push w ↦
          (let p = get_or ps v 0 in
          let lp : p - 1 < length xs = omega (arith, c.loop-v.invariant.long, w.if-parent-ge1.true, w.if-parent-v.true) in
          let is : w.index.result.now ≡ get_or xs (p - 1) 0 = w.index.ensures ∙ get_or_default xs (p - 1) w.index.result.now 0 lp in
          rw (w.numbers-is, w.count-is, w.in_ok-push.ensures.items, is) (numbered_as ps xs c.loop-v.count v p c.requires.parents c.loop-v.invariant c.loop-v-test.true refl w.if-parent-ge1.true w.if-parent-v.true))
      | else-parent-ge1+in_ok-push-2 w ↦
          rw (w.numbers-is, w.count-is, w.in_ok-push-2.ensures.items) (numbered_next ps xs c.loop-v.count v c.requires.parents c.loop-v-test.true
          (λ one. elim w.else-parent-ge1.branch [
            | else-parent-ge1-via-then-parent-ge1+else-parent-v w' ↦ w'.if-parent-v.false
            | else-parent-ge1-via-else-parent-ge1 w' ↦ absurd (omega (arith, w'.if-parent-ge1.false, one))
          ]) c.loop-v.invariant)
    ]

pub returns-clause-labels : goal.returns-clause-labels
returns-clause-labels c = numbered_labels c.args.parents.now c.loop-v.numbers.items c.loop-v.count c.loop-v.v c.loop-v.invariant

pub returns-clause-numbers : goal.returns-clause-numbers
returns-clause-numbers c =
    numbers_of c.args.parents.now c.loop-v.numbers.items c.loop-v.count c.loop-v.v c.requires.parents c.loop-v.invariant (omega (arith, c.loop-v-test.false, c.loop-v.auto.v-end)) c.requires.apart
