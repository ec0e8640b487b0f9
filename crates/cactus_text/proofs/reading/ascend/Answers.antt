use Rattle.std.proofs.Common.{◌≤◌, ◌<◌, ◌^◌, inl, inr, length, get_or, refl, subst, sym, arith}
use Rattle.cactus_text.proofs.Suffixes.{ascends_broken, ascends_end, ascends_next, ascends_small}
use Rattle.cactus_text.proofs.reading.ascend.Goals as goal
use Rattle.cactus_text.proofs.reading.ascend.Goals.{then-numbers-i-via-then-numbers-i, then-numbers-i-via-else-numbers-i+then-numbers-i-2}

pub returns-then-numbers-i-clause-ascending : goal.returns-then-numbers-i-clause-ascending
returns-then-numbers-i-clause-ascending c =
    let numbers = c.args.numbers.now in
    let i = c.numbers.i in
    let broken = ascends_broken c.numbers.low c.args.high numbers i 0 (get_or numbers i 0) c.numbers-test.true refl c.numbers.invariant in
    elim c.then-numbers-i.branch [
      | then-numbers-i-via-then-numbers-i w ↦ sym (broken (inl w.if-numbers-i.true))
      | then-numbers-i-via-else-numbers-i+then-numbers-i-2 w ↦ sym (broken (inr (subst (λ h. h < get_or numbers i 0) w.from.ensures w.if-numbers-i-2.true)))
    ]

pub numbers-preserved : goal.numbers-preserved
numbers-preserved c =
    let numbers = c.args.numbers.now in
    let i = c.numbers.i in
    let within = subst (λ h. get_or numbers i 0 ≤ h) c.from.ensures c.if-numbers-i-2.false in
    ascends_next c.numbers.low c.args.high numbers i 0 (get_or numbers i 0) c.numbers-test.true refl c.numbers.invariant c.if-numbers-i.false within

pub returns-clause-ascending : goal.returns-clause-ascending
returns-clause-ascending c = sym (ascends_end c.numbers.low c.args.high c.args.numbers.now c.numbers.i c.numbers-test.false c.numbers.invariant)

pub returns-clause-small : goal.returns-clause-small
returns-clause-small c e =
    let numbers = c.args.numbers.now in
    let past : length numbers ≤ c.numbers.i = omega (arith, c.numbers-test.false) in
    let high : c.args.high < 2 ^ 32 = omega (arith, c.ranges.high.fits) in
    ascends_small 1 c.args.high numbers (ascends_end c.numbers.low c.args.high numbers c.numbers.i past c.numbers.invariant) high
