-- The number of the bits that are set, word by word.
use Rattle.std.proofs.Common.{◌≡◌, ℕ, zero, suc, ◌+◌, ◌*◌, ◌/◌, ◌%◌, ◌^◌, ◌<◌, eqb, cond, Bool, true, false, List, ◌∷◌, ◌++◌, length, length-append, count_ones, get_or, refl, sym, ◌∙◌, ap, arith}
use Rattle.std.specs.List.{filter, range_with_len}
use Rattle.std.specs.Int.{bit_at}
use Rattle.std.specs.Int.Count.{ones_step}
use Rattle.std.proofs.Math.Nat.{pow-suc}
use Rattle.std.proofs.lemmas.List.Elements.{filter-append}
use Rattle.std.proofs.lemmas.Nat.{ones_le_self}
use Rattle.std.proofs.lemmas.Nat.Bits.{bit_at_lowest, bit_at-suc}
use Rattle.cut_definitions.specs.Weight.{VertexSet}
use Rattle.vertex_set.specs.Side.{has_bit}
use Rattle.vertex_set.proofs.Bits.{place_of}

-- a range in two parts
pub range-append : (m k a : ℕ) → range_with_len a (m + k) ≡ range_with_len a m ++ range_with_len (a + m) k
range-append zero k a = ap (λ (x : ℕ). range_with_len a x) (let q : 0 + k ≡ k = omega arith in q) ∙ ap (λ (x : ℕ). range_with_len x k) (let q : a ≡ a + 0 = omega arith in q)
range-append (suc m) k a =
    ap (λ (x : ℕ). range_with_len a x) (let q : suc m + k ≡ suc (m + k) = omega arith in q) ∙ ap (λ (xs : List ℕ). a ∷ xs) (range-append m k (a + 1) ∙ ap (λ (x : ℕ). range_with_len (a + 1) m ++ range_with_len x k) (let q : (a + 1) + m ≡ a + suc m = omega arith in q))

pub filter-range_append : (s : VertexSet) (m k a : ℕ) → filter s (range_with_len a (m + k)) ≡ filter s (range_with_len a m) ++ filter s (range_with_len (a + m) k)
filter-range_append s m k a = ap (filter s) (range-append m k a) ∙ filter-append s (range_with_len a m) (range_with_len (a + m) k)

first_bit : (b : Bool) (x w h : ℕ) (rest : List ℕ) → b ≡ eqb (w % 2) 1 → length rest ≡ h → length (cond b (x ∷ rest) rest) ≡ w % 2 + h
first_bit true x w h rest e q = grind arith
first_bit false x w h rest e q = grind arith

-- there are as many numbers for the set bits of a word as such bits
pub word_ones : (m low w : ℕ) (s : VertexSet) → w < 2 ^ m → ((i : ℕ) → i < m → s (low + i) ≡ eqb (bit_at w i) 1) → length (filter s (range_with_len low m)) ≡ count_ones w
word_ones zero low w s fits same = let none : w < 1 = fits in omega (arith, ones_le_self w)
word_ones (suc m) low w s fits same =
    let p = pow-suc 2 m in
    let half : w / 2 < 2 ^ m = omega arith in
    let here : low + 0 ≡ low = omega arith in
    let first : s low ≡ eqb (w % 2) 1 = ap s (sym here) ∙ (same 0 (omega arith) ∙ ap (λ (x : ℕ). eqb x 1) (bit_at_lowest w)) in
    let rest = word_ones m (low + 1) (w / 2) s half
    (λ i l. let next : (low + 1) + i ≡ low + suc i = omega arith in ap s next ∙ (same (suc i) (omega arith) ∙ ap (λ (x : ℕ). eqb x 1) (bit_at-suc w i))) in
    first_bit (s low) low w (count_ones (w / 2)) (filter s (range_with_len (low + 1) m)) first rest ∙ sym (ones_step w)

-- one more word adds its bits
pub count-word : (words : List ℕ) (at : ℕ) → get_or words at 0 < 2 ^ 64 →
    length (filter (has_bit words) (range_with_len 0 ((at + 1) * 64))) ≡ length (filter (has_bit words) (range_with_len 0 (at * 64))) + count_ones (get_or words at 0)
count-word words at fits =
    let more : (at + 1) * 64 ≡ at * 64 + 64 = omega arith in
    let low : 0 + at * 64 ≡ at * 64 = omega arith in
    let old = filter (has_bit words) (range_with_len 0 (at * 64)) in
    let new = filter (has_bit words) (range_with_len (0 + at * 64) 64) in
    let ones = word_ones 64 (0 + at * 64) (get_or words at 0) (has_bit words) fits
    (λ i l. let p = place_of at i l in rw (low, p.0, p.1) refl) in
    ap (λ (x : ℕ). length (filter (has_bit words) (range_with_len 0 x))) more
    ∙ (ap length (filter-range_append (has_bit words) (at * 64) 64 0)
    ∙ (length-append old new ∙ ap (λ (x : ℕ). length old + x) ones))
