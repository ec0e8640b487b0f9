-- How the next part hangs, by the weights of both.
use Rattle.std.proofs.Common.{◌+◌, ltb, arith}
use Rattle.std.proofs.lemmas.Bool.{lt-ltb}
use Rattle.std.proofs.lemmas.Bool.Decides.{nat_tests}
use Rattle.node_tree.proofs.PartWeights.{may_hang}
use Rattle.node_tree.proofs.part_nodes.hanging_after.Goals as goal
use Rattle.node_tree.proofs.part_nodes.hanging_after.Goals.{then-inner, else-inner}

pub returns : goal.returns
returns c = λ g region t part w.
    let inner = ltb (c.args.i + 1) c.args.count in
    may_hang c.hanging.result g region t c.args.count part c.args.value c.args.later.now c.args.next.now c.args.i c.if-inner.after inner w c.requires.from_two c.requires.below_count
    (λ below. (
      lt-ltb (c.args.i + 1) c.args.count below,
      elim c.if-inner.branch [
        | then-inner b ↦ b.after-is
        | else-inner b ↦ absurd (omega (arith, below, b.if-inner.false))
      ],
    ))
    (λ is. elim c.if-inner.branch [
      | then-inner b ↦ b.if-inner.true
      | else-inner b ↦ absurd (grind (arith, nat_tests, is, b.if-inner.false))
    ])
    c.hanging.ensures.bridged c.hanging.ensures.followed c.hanging.ensures.touching
