-- The least place whose bit is set, word by word.
use Rattle.std.proofs.Common.{◌≡◌, ℕ, ◌+◌, ◌-◌, ◌*◌, ◌/◌, ◌%◌, ◌^◌, ◌<◌, ◌≤◌, ⊎_elim, true, false, List, get_or, sym, ◌∙◌, ap, arith, bit_and}
use Rattle.std.specs.Int.{bit_at, trailing_zeros, w64}
use Rattle.std.proofs.lemmas.Bool.{cases_lt}
use Rattle.std.proofs.lemmas.Nat.Bits.{bit_at-lt, bit_at_and, bit_at-zero, bit_at-trailing_zeros, ones_shl, bit_at_mask_inside, bit_at_mask_below}
use Rattle.vertex_set.specs.Side.{has_bit}
use Rattle.vertex_set.proofs.Bits.{has_bit_at, no_bit_at}

-- no bit from one place up to another
abbrev pub HasNoBit : List ℕ → ℕ → ℕ → Type 0
HasNoBit words from to = (k : ℕ) → from ≤ k → k < to → has_bit words k ≡ false

-- the lowest bit of a word, which has the bits of a list of words from a place on
pub lowest_is_next : (words : List ℕ) (at w from : ℕ) → 0 < w → w < 2 ^ 64 → from ≤ at * 64 + 64 → HasNoBit words from (at * 64) →
    ((i : ℕ) → i < 64 → from ≤ at * 64 + i → bit_at w i ≡ bit_at (get_or words at 0) i) → ((i : ℕ) → at * 64 + i < from → bit_at w i ≡ 0) →
    let k = at * 64 + trailing_zeros w64 w in
    (from ≤ k) × (k < at * 64 + 64) × (has_bit words k ≡ true) × HasNoBit words from k
lowest_is_next words at w from pos fits near none same low =
    let t = trailing_zeros w64 w in
    let h = bit_at-trailing_zeros w64 w pos fits in
    let t_in : t < 64 = h.0 in
    let t_set : bit_at w t ≡ 1 = h.1 in
    let from_le : from ≤ at * 64 + t = ⊎_elim
    (λ (l : at * 64 + t < from). absurd (let z = low t l in omega arith))
    (λ (g : from ≤ at * 64 + t). g)
    (cases_lt (at * 64 + t) from) in (
      from_le,
      omega arith,
      has_bit_at words at t t_in (sym (same t t_in from_le) ∙ t_set),
      (λ k l u. ⊎_elim
          (λ (b : k < at * 64). none k l b)
          (λ (g : at * 64 ≤ k).
          let i_in : k - at * 64 < t = omega arith in
          let q : k ≡ at * 64 + (k - at * 64) = omega arith in
          let z = h.2 (k - at * 64) i_in in
          let s = same (k - at * 64) (omega arith) (omega arith) in
          rw q (no_bit_at words at (k - at * 64) (omega arith) (sym s ∙ z)))
          (cases_lt k (at * 64))),
    )

high_of : (word mask i m : ℕ) → mask ≡ m → bit_at m i ≡ 1 → bit_at (bit_and word mask) i ≡ bit_at word i
high_of word mask i m e one = let l = bit_at-lt word i in rw (e, bit_at_and word m i) (omega (arith, one))

low_of : (word mask i m : ℕ) → mask ≡ m → bit_at m i ≡ 0 → bit_at (bit_and word mask) i ≡ 0
low_of word mask i m e none = let l = bit_at-lt word i in rw (e, bit_at_and word m i) (omega (arith, none))

-- the bits of a word from one on
pub bit_at-masked_high : (word k i : ℕ) → k < 64 → k ≤ i → i < 64 → bit_at (bit_and word ((2 ^ 64 - 1) * 2 ^ k % 2 ^ 64)) i ≡ bit_at word i
bit_at-masked_high word k i kl le il =
    let k_in : k ≤ 64 = omega arith in
    high_of word ((2 ^ 64 - 1) * 2 ^ k % 2 ^ 64) i (2 ^ 64 - 2 ^ k) (ones_shl 64 k k_in) (bit_at_mask_inside k 64 i le il)

pub bit_at-masked_low : (word k i : ℕ) → k < 64 → i < k → bit_at (bit_and word ((2 ^ 64 - 1) * 2 ^ k % 2 ^ 64)) i ≡ 0
bit_at-masked_low word k i kl l =
    let k_in : k ≤ 64 = omega arith in
    low_of word ((2 ^ 64 - 1) * 2 ^ k % 2 ^ 64) i (2 ^ 64 - 2 ^ k) (ones_shl 64 k k_in) (bit_at_mask_below k 64 i l)

-- no bit of the word is set if nothing is left of it from a place on
pub no_bit_masked : (words : List ℕ) (from : ℕ) → bit_and (get_or words (from / 64) 0) ((2 ^ 64 - 1) * 2 ^ (from % 64) % 2 ^ 64) ≡ 0 → HasNoBit words from ((from / 64 + 1) * 64)
no_bit_masked words from e k l u =
    let at = from / 64 in
    let q : k ≡ at * 64 + k % 64 = omega arith in
    let i_in : k % 64 < 64 = omega arith in
    let same = bit_at-masked_high (get_or words at 0) (from % 64) (k % 64) (omega arith) (omega arith) i_in in
    let none : bit_at (get_or words at 0) (k % 64) ≡ 0 = sym same ∙ (ap (λ (w : ℕ). bit_at w (k % 64)) e ∙ bit_at-zero (k % 64)) in
    rw q (no_bit_at words at (k % 64) i_in none)

pub no_bit_more : (words : List ℕ) (from at : ℕ) → get_or words at 0 ≡ 0 → HasNoBit words from (at * 64) → HasNoBit words from ((at + 1) * 64)
no_bit_more words from at e none k l u =
    ⊎_elim
    (λ (b : k < at * 64). none k l b)
    (λ (g : at * 64 ≤ k).
    let q : k ≡ at * 64 + (k - at * 64) = omega arith in
    rw q (no_bit_at words at (k - at * 64) (omega arith) (rw e (bit_at-zero (k - at * 64)))))
    (cases_lt k (at * 64))
