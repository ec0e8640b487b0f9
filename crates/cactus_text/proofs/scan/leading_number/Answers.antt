use Rattle.std.proofs.Common.{◌≡◌, ◌≤◌, ◌<◌, ◌+◌, ◌*◌, ◌^◌, ℕ, suc, length, take, get_or, subst, sym, add-one, arith}
use Rattle.std.specs.Char.{digit_value}
use Rattle.std.specs.Str.Parse.{digits_value}
use Rattle.std.proofs.lemmas.Int.Digits.{digits_value_more}
use Rattle.cactus_text.specs.Scanned.{IsLeading}
use Rattle.cactus_text.proofs.Scanning.{digits_more, leads_far, leads_here, leads_more, leads, leads_some, leads_plain}
use Rattle.cactus_text.proofs.scan.leading_number.Goals as goal

pub returns-in_err-number-clause-none : goal.returns-in_err-number-clause-none
returns-in_err-number-clause-none c n k h =
    let text = c.args.text.now in
    let i = c.digits.i in
    let within : i < length text = c.in-Some.ensures.0 in
    let digit : digit_value (get_or text i 0) < 10 = subst (λ (d : ℕ). d < 10) c.in-Some.ensures.2 c.in-Some.ensures.1 in
    let far : suc i ≤ k = leads_far text n k (suc i) h (omega (arith, within)) (digits_more text i within c.digits.invariant.digits digit) in
    let more : digits_value 10 (take (i + 1) text) ≤ n = leads_more text n k (i + 1) h (omega (arith, far)) in
    let write : digits_value 10 (take (i + 1) text) ≡ digits_value 10 (take i text) * 10 + digit_value (get_or text i 0) = digits_value_more 10 text i within in
    let large : c.digits.number * 10 + c.in-Some.digit < 2 ^ 64 → ⊥ = c.in_err-number.ensures in
    absurd (large (omega (arith, more, write, c.digits.invariant.value, c.in-Some.ensures.2, h.small)))

pub digits-preserved : goal.digits-preserved
digits-preserved c =
    let text = c.args.text.now in
    let i = c.digits.i in
    let within : i < length text = c.in-Some.ensures.0 in
    let digit : digit_value (get_or text i 0) < 10 = subst (λ (d : ℕ). d < 10) c.in-Some.ensures.2 c.in-Some.ensures.1 in
    let write : digits_value 10 (take (i + 1) text) ≡ digits_value 10 (take i text) * 10 + digit_value (get_or text i 0) = digits_value_more 10 text i within in
    let fits : c.digits.number * 10 + c.in-Some.digit < 2 ^ 64 = c.in_ok-number.ensures.0 in
    let is : c.in_ok-number.number ≡ c.digits.number * 10 + c.in-Some.digit = c.in_ok-number.ensures.1 in
    record {
      within = omega (arith, within);
      digits = rw (add-one i) (digits_more text i within c.digits.invariant.digits digit);
      value = omega (arith, is, write, c.digits.invariant.value, c.in-Some.ensures.2);
      small = omega (arith, is, fits);
    }

pub returns-then-is_plain-clause-some : goal.returns-then-is_plain-clause-some
returns-then-is_plain-clause-some c =
    let text = c.args.text.now in
    let i = c.digits.i in
    let small : digits_value 10 (take i text) < 2 ^ 64 = omega (arith, c.digits.invariant.value, c.digits.invariant.small) in
    subst (λ n. IsLeading text n i) (sym c.digits.invariant.value)
    (leads text i c.digits.invariant.within c.digits.invariant.digits small (c.is_plain.ensures.some c.if-is_plain.true) (c.is_plain.ensures.plain c.if-is_plain.true) c.in_default.ensures)

pub returns-else-is_plain-clause-none : goal.returns-else-is_plain-clause-none
returns-else-is_plain-clause-none c n k h =
    let text = c.args.text.now in
    let i = c.digits.i in
    let far : i ≤ k = leads_far text n k i h c.digits.invariant.within c.digits.invariant.digits in
    let here : k ≤ i = leads_here text n k i h c.in_default.ensures in
    let some : 0 < k = leads_some text n k h in
    let long : 1 < i = omega (arith, far, here, some, c.is_plain.ensures.one c.if-is_plain.false) in
    absurd (leads_plain text n k h (omega (arith, far, long)) (c.is_plain.ensures.zero c.if-is_plain.false long))
