use Rattle.std.proofs.Common.{ℕ, Bool, ◌&&◌, inl, inr, nat_le, nat_lt, get_or, refl, sym}
use Rattle.cactus_text.proofs.Suffixes.{all_broken, all_end, all_next, within_no, within_yes}
use Rattle.cactus_text.proofs.reading.are_within.Goals as goal
use Rattle.cactus_text.proofs.reading.are_within.Goals.{then-numbers-i-via-then-numbers-i, then-numbers-i-via-else-numbers-i+then-numbers-i-2}

abbrev within : ℕ → ℕ → ℕ → Bool
within low end i = nat_le low i && nat_lt i end

pub returns-then-numbers-i : goal.returns-then-numbers-i
returns-then-numbers-i c =
    let low = c.args.low in
    let end = c.args.end in
    let numbers = c.args.numbers.now in
    let i = c.numbers.i in
    let x = get_or numbers i 0 in
    elim c.then-numbers-i.branch [
      | then-numbers-i-via-then-numbers-i w ↦ sym (all_broken (within low end) numbers i 0 x c.numbers-test.true refl c.numbers.invariant (within_no low end x (inl w.if-numbers-i.true)))
      | then-numbers-i-via-else-numbers-i+then-numbers-i-2 w ↦ sym (all_broken (within low end) numbers i 0 x c.numbers-test.true refl c.numbers.invariant (within_no low end x (inr w.if-numbers-i-2.true)))
    ]

pub numbers-preserved : goal.numbers-preserved
numbers-preserved c =
    let low = c.args.low in
    let end = c.args.end in
    let numbers = c.args.numbers.now in
    let i = c.numbers.i in
    let x = get_or numbers i 0 in
    all_next (within low end) numbers i 0 x c.numbers-test.true refl c.numbers.invariant (within_yes low end x c.if-numbers-i.false c.if-numbers-i-2.false)

pub returns : goal.returns
returns c = sym (all_end (within c.args.low c.args.end) c.args.numbers.now c.numbers.i c.numbers-test.false c.numbers.invariant)
