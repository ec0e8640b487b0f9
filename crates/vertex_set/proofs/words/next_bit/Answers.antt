use Rattle.std.proofs.Common.{◌-◌, ◌*◌, ◌/◌, ◌%◌, ◌^◌, ◌<◌, ◌≤◌, get_or, bit_and, ⊎_elim, arith, refl}
use Rattle.std.proofs.lemmas.Bool.{cases_lt}
use Rattle.std.proofs.lemmas.Nat.{and_le_l}
use Rattle.vertex_set.proofs.NextBit.{lowest_is_next, bit_at-masked_high, bit_at-masked_low, no_bit_masked}
use Rattle.vertex_set.proofs.Bits.{has_bit-past}
use Rattle.vertex_set.proofs.words.next_bit.Goals as goal

pub returns-then-first-ne0 : goal.returns-then-first-ne0
returns-then-first-ne0 c =
    let words = c.args.words.now in
    let from = c.args.from in
    let w = bit_and (get_or words (from / 64) 0) ((2 ^ 64 - 1) * 2 ^ (from % 64) % 2 ^ 64) in
    let next = lowest_is_next words (from / 64) w from (omega (arith, c.if-first-ne0.true)) (omega (arith, and_le_l (get_or words (from / 64) 0) ((2 ^ 64 - 1) * 2 ^ (from % 64) % 2 ^ 64), c.type_inv.words (from / 64))) (omega arith) (λ k l u. absurd (omega arith))
    (λ i l h. bit_at-masked_high (get_or words (from / 64) 0) (from % 64) i (omega arith) (omega arith) l)
    (λ i l. bit_at-masked_low (get_or words (from / 64) 0) (from % 64) i (omega arith) (omega arith)) in
    record { not_before = next.0; is_set = next.2; none_between = next.3 }

pub returns-then-word-ne0 : goal.returns-then-word-ne0
returns-then-word-ne0 c =
    let words = c.args.words.now in
    let from = c.args.from in
    let at = c.loop-next.next in
    let w = get_or words at 0 in
    let ne = c.if-word-ne0.true in
    let next = lowest_is_next words at w from (omega arith) (omega (arith, c.type_inv.words at)) (omega arith) c.loop-next.invariant
    (λ i l h. refl) (λ i l. absurd (omega arith)) in
    record { not_before = next.0; is_set = next.2; none_between = next.3 }

pub returns : goal.returns
returns c k l =
    let words = c.args.words.now in
    ⊎_elim
    (λ (h : k < c.loop-next.next * 64). c.loop-next.invariant k l h)
    (λ (g : c.loop-next.next * 64 ≤ k). has_bit-past words k (omega arith))
    (cases_lt k (c.loop-next.next * 64))

pub loop-next-init : goal.loop-next-init
loop-next-init c = no_bit_masked c.args.words.now c.args.from c.if-first-ne0.false
