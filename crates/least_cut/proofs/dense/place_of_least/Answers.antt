-- One number more was looked at.
use Rattle.std.proofs.Common.{ℕ, get_or, arith}
use Rattle.least_cut.proofs.FoundCuts.{next_less, next_not_less}
use Rattle.least_cut.proofs.dense.place_of_least.Goals as goal
use Rattle.least_cut.proofs.dense.place_of_least.Goals.{then-numbers-k, else-numbers-k}

pub loop-k-preserved : goal.loop-k-preserved
loop-k-preserved c =
    let at = λ (u : ℕ). get_or c.args.numbers.now u 0 in
    let before = c.loop-k.place in
    let k = c.loop-k.k in
    let h = c.loop-k.invariant in
    elim c.if-numbers-k.branch [
      | then-numbers-k w ↦ rw w.place-is (record { from_one = omega (arith, c.loop-k.auto.k); there = c.loop-k-test.true; least = next_less at before k h.least w.if-numbers-k.true })
      | else-numbers-k w ↦ rw w.place-is (record { from_one = h.from_one; there = h.there; least = next_not_less at before k h.least (omega (arith, w.if-numbers-k.false)) })
    ]
