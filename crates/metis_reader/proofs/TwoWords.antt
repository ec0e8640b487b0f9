-- The digits of two words by one mask of both.
use Rattle.std.proofs.Common.{◌≡◌, ◌≤◌, ◌<◌, ◌+◌, ◌-◌, ◌/◌, ◌%◌, ◌^◌, ℕ, zero, suc, Bool, true, false, not, cond, leb, List, [], ◌∷◌, map, length, take, drop, get_or, replicate, refl, sym, ap, ap₂, ◌∙◌, subst, arith}
use Rattle.std.specs.List.{All, list_all, prefix_len}
use Rattle.std.proofs.Math.Nat.{pow-suc, div-div-eq-div-mul}
use Rattle.std.proofs.lemmas.Bool.{and_parts}
use Rattle.std.proofs.lemmas.Bool.Decides.{nat_tests}
use Rattle.std.proofs.lemmas.List.{length-drop, drop-take, drop-drop, drop-map}
use Rattle.std.proofs.lemmas.List.Elements.{All-cons, All-nil}
use Rattle.std.proofs.lemmas.Simd.{trailing_mask_l}
use Rattle.std.specs.Int.Count.{trailing_of_zero}
use lib.Count.{count_trailing_zeros}
use lib.Lanes.{mask_l, top, zip2}
use Rattle.metis_reader.specs.Eight.{value_of, is_value, is_other}
use Rattle.metis_reader.specs.Text.{is_digit}
use Rattle.metis_reader.proofs.EightDigits.{at_most, others_mask}
use Rattle.metis_reader.proofs.EightWords.{leading_digits, digit_range, value_is}

is_above : (d : ℕ) → leb 10 d ≡ is_other d
is_above d = grind (arith, nat_tests)

same_others : (xs : List ℕ) → map (leb 10) xs ≡ map is_other xs
same_others [] = refl
same_others (x ∷ xs) = ap₂ (λ (b : Bool) (bs : List Bool). b ∷ bs) (is_above x) (same_others xs)

pub mask_is : (k : ℕ) (xs : List ℕ) → length xs ≡ k → k ≤ 64 → mask_l (map (top 7) (zip2 at_most (replicate k 10) xs)) % 2 ^ 64 ≡ mask_l (map is_other xs)
mask_is k xs long few = others_mask k xs long few ∙ ap mask_l (same_others xs)

not_not : (b : Bool) → not (not b) ≡ b
not_not true = refl
not_not false = refl

same_prefix : (xs : List ℕ) → prefix_len (λ d. not (is_other d)) xs ≡ prefix_len is_value xs
same_prefix [] = refl
same_prefix (x ∷ xs) = ap₂ (λ (b : Bool) (n : ℕ). cond b (1 + n) 0) (not_not (is_value x)) (same_prefix xs)

pub counted : (m : ℕ) (xs : List ℕ) → m ≡ mask_l (map is_other xs) → length xs ≤ 64 → count_trailing_zeros 64 m < 64 → count_trailing_zeros 64 m ≡ prefix_len is_value xs
counted zero xs is few below = absurd (omega (arith, below, trailing_of_zero 64))
counted (suc m) xs is few below = ap (count_trailing_zeros 64) is ∙ trailing_mask_l is_other 64 xs few (omega (arith, is)) ∙ same_prefix xs

half : (bs : List Bool) → mask_l bs / 2 ≡ mask_l (drop 1 bs)
half [] = refl
half (true ∷ bs) = omega arith
half (false ∷ bs) = omega arith

behind : (k : ℕ) (bs : List Bool) → mask_l bs / 2 ^ k / 2 ≡ mask_l (drop (k + 1) bs)
behind zero bs = ap (λ n. n / 2) {x = mask_l bs / 1} {y = mask_l bs} (omega arith) ∙ half bs
behind (suc k) bs =
    let more : k + 1 + 1 ≡ suc k + 1 = omega arith in
    ap (λ n. mask_l bs / n / 2) (pow-suc 2 k) ∙ ap (λ n. n / 2) (sym (div-div-eq-div-mul (mask_l bs) (2 ^ k) 2) ∙ behind k bs)
    ∙ half (drop (k + 1) bs) ∙ ap mask_l (drop-drop 1 (k + 1) bs ∙ ap (λ n. drop n bs) more)

pub second_counted : (m k : ℕ) (xs : List ℕ) → m ≡ mask_l (map is_other xs) → length xs ≤ 64 → count_trailing_zeros 64 (m / 2 ^ k / 2) < 64 → count_trailing_zeros 64 (m / 2 ^ k / 2) ≡ prefix_len is_value (drop (k + 1) xs)
second_counted m k xs is few below =
    counted (m / 2 ^ k / 2) (drop (k + 1) xs) (ap (λ n. n / 2 ^ k / 2) is ∙ behind k (map is_other xs) ∙ ap mask_l (drop-map is_other (k + 1) xs))
    (omega (arith, few, length-drop (k + 1) xs)) below

values_behind : (k : ℕ) (xs : List ℕ) → k < 16 → drop (k + 1) (map value_of (take 16 xs)) ≡ map value_of (take (15 - k) (drop (k + 1) xs))
values_behind k xs few =
    let all : 16 ≡ k + 1 + (15 - k) = omega (arith, few) in
    drop-map value_of (k + 1) (take 16 xs) ∙ ap (λ n. map value_of (drop (k + 1) (take n xs))) all ∙ ap (map value_of) (drop-take (k + 1) (15 - k) xs)

pub first_digits : (k : ℕ) (xs : List ℕ) → ((i : ℕ) → get_or xs i 0 < 256) → k ≡ prefix_len is_value (map value_of (take 16 xs)) → list_all is_digit (take k xs) ≡ true
first_digits k xs bytes is = subst (λ n. list_all is_digit (take n xs) ≡ true) (sym is) (leading_digits 16 xs bytes)

pub second_digits : (from k n : ℕ) (xs : List ℕ) → ((i : ℕ) → get_or (drop (from + k + 1) xs) i 0 < 256) → k < 16 → n ≡ prefix_len is_value (drop (k + 1) (map value_of (take 16 (drop from xs))))
    → list_all is_digit (take n (drop (from + k + 1) xs)) ≡ true
second_digits from k n xs bytes few is =
    let place : from + (k + 1) ≡ from + k + 1 = omega arith in
    let rest : drop (k + 1) (drop from xs) ≡ drop (from + k + 1) xs = drop-drop (k + 1) from xs ∙ ap (λ i. drop i xs) place in
    let size : n ≡ prefix_len is_value (map value_of (take (15 - k) (drop (from + k + 1) xs))) =
    is ∙ ap (prefix_len is_value) (values_behind k (drop from xs) few ∙ ap (λ ys. map value_of (take (15 - k) ys)) rest) in
    subst (λ i. list_all is_digit (take i (drop (from + k + 1) xs)) ≡ true) (sym size) (leading_digits (15 - k) (drop (from + k + 1) xs) bytes)

small_value : (b : ℕ) → is_digit b ≡ true → value_of b < 10
small_value b h = let range = digit_range b h in omega (arith, value_is b h, range.0, range.1)

pub small_values : (xs : List ℕ) → list_all is_digit xs ≡ true → All (λ (d : ℕ). d < 10) (map value_of xs)
small_values [] all = All-nil (λ (d : ℕ). d < 10)
small_values (x ∷ xs) all =
    let parts = and_parts (is_digit x) (list_all is_digit xs) all in
    All-cons (λ (d : ℕ). d < 10) (value_of x) (map value_of xs) (small_value x parts.0) (small_values xs parts.1)
