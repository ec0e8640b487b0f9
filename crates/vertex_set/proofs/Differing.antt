-- The least place whose bit is set in one list of words and not in the other.
use Rattle.std.proofs.Common.{◌≡◌, ℕ, ◌+◌, ◌-◌, ◌*◌, ◌/◌, ◌%◌, ◌^◌, ◌<◌, ◌≤◌, ⊎_elim, eqb, List, length, get_or, refl, sym, ◌∙◌, ap, arith, bit_xor}
use Rattle.std.specs.Prelude.{◌≢◌}
use Rattle.std.specs.Int.{bit_at, trailing_zeros, w64}
use Rattle.std.specs.Int.Bits.{xor_add_and}
use Rattle.std.proofs.lemmas.Bool.{cases_lt, cases_eq, eq-eqb, ne_eqb, false≢true}
use Rattle.std.proofs.lemmas.Nat.{and_le_l, and_le_r, xor_lt}
use Rattle.std.proofs.lemmas.Nat.Bits.{bit_at-lt, bit_at_xor, bit_at-trailing_zeros}
use Rattle.vertex_set.specs.Side.{has_bit, IsFirstDifference}
use Rattle.vertex_set.proofs.Bits.{place_of}

-- no bit differs up to a place
abbrev pub AreSameTo : List ℕ → List ℕ → ℕ → Type 0
AreSameTo words others end = (k : ℕ) → k < end → has_bit words k ≡ has_bit others k

same_words : (a b : ℕ) → bit_xor a b ≡ 0 → a ≡ b
same_words a b e = omega (arith, xor_add_and a b, and_le_l a b, and_le_r a b)

-- a bit of a word
bit_here : (words : List ℕ) (at i : ℕ) → i < 64 → has_bit words (at * 64 + i) ≡ eqb (bit_at (get_or words at 0) i) 1
bit_here words at i l = let p = place_of at i l in rw (p.0, p.1) refl

same_bits : (a b : ℕ) → a < 2 → b < 2 → (a + b) % 2 ≡ 0 → a ≡ b
same_bits a b l m e = omega arith

other_bits : (a b : ℕ) → a < 2 → b < 2 → (a + b) % 2 ≡ 1 → eqb a 1 ≢ eqb b 1
other_bits a b l m e q =
    ⊎_elim
    (λ (h : a ≡ 1). let x : b ≢ 1 = omega arith in false≢true (sym (ne_eqb b 1 x) ∙ (sym q ∙ eq-eqb a 1 h)))
    (λ (h : a ≢ 1). let x : b ≡ 1 = omega arith in false≢true (sym (ne_eqb a 1 h) ∙ (q ∙ eq-eqb b 1 x)))
    (cases_eq a 1)

pub differs_here : (words others : List ℕ) (at : ℕ) → at < length words → at < length others → get_or words at 0 < 2 ^ 64 → get_or others at 0 < 2 ^ 64 →
    AreSameTo words others (at * 64) → 0 < bit_xor (get_or words at 0) (get_or others at 0) →
    IsFirstDifference words others (at * 64 + trailing_zeros w64 (bit_xor (get_or words at 0) (get_or others at 0)))
differs_here words others at la lb fa fb same pos =
    let a = get_or words at 0 in
    let b = get_or others at 0 in
    let t = trailing_zeros w64 (bit_xor a b) in
    let lowest = bit_at-trailing_zeros w64 (bit_xor a b) pos (xor_lt 64 a b fa fb) in
    let t_in : t < 64 = lowest.0 in
    let p = place_of at t t_in in
    let word : (at * 64 + t) / 64 ≡ at = p.0 in
    let differ : eqb (bit_at a t) 1 ≢ eqb (bit_at b t) 1 = other_bits (bit_at a t) (bit_at b t) (bit_at-lt a t) (bit_at-lt b t) (sym (bit_at_xor a b t) ∙ lowest.1) in
    record {
      in_words = omega arith;
      in_others = omega arith;
      differ = λ q. differ (sym (bit_here words at t t_in) ∙ (q ∙ bit_here others at t t_in));
      same_before = λ k l. ⊎_elim
          (λ (x : k < at * 64). same k x)
          (λ (x : at * 64 ≤ k).
          let i = k - at * 64 in
          let i_in : i < 64 = omega arith in
          let q : k ≡ at * 64 + i = omega arith in
          let none : bit_at (bit_xor a b) i ≡ 0 = lowest.2 i (omega arith) in
          let e : bit_at a i ≡ bit_at b i = same_bits (bit_at a i) (bit_at b i) (bit_at-lt a i) (bit_at-lt b i) (sym (bit_at_xor a b i) ∙ none) in
          ap (has_bit words) q ∙ (bit_here words at i i_in ∙ (ap (λ (x : ℕ). eqb x 1) e ∙ (sym (bit_here others at i i_in) ∙ ap (has_bit others) (sym q)))))
          (cases_lt k (at * 64));
    }

pub same_further : (words others : List ℕ) (at : ℕ) → AreSameTo words others (at * 64) → bit_xor (get_or words at 0) (get_or others at 0) ≡ 0 → AreSameTo words others ((at + 1) * 64)
same_further words others at same e k l =
    ⊎_elim
    (λ (x : k < at * 64). same k x)
    (λ (x : at * 64 ≤ k).
    let here : k / 64 ≡ at = omega arith in
    let w = same_words (get_or words at 0) (get_or others at 0) e in
    rw (here, w) refl)
    (cases_lt k (at * 64))
