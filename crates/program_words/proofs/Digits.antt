-- What `parse` reads, as a test of the digits.
use Rattle.std.proofs.Common.{◌≡◌, ◌^◌, ◌<◌, ◌≤◌, ◌&&◌, ◌==◌, ℕ, Bool, true, false, refl, ap, subst, List, [], ◌∷◌, length, Some, None, Result, Ok, Err, nat_lt, lt-ltb, ltb-true, slice_index}
use Rattle.std.specs.Prelude.{OkIff, cond, drop}
use Rattle.std.specs.List.{list_all}
use Rattle.std.specs.Result.{result_ok}
use Rattle.std.specs.Char.{digit_value}
use Rattle.std.specs.Str.Parse.{AllDigits, IsNumeral, ParsesUnsigned, digits_value}
use Rattle.std.proofs.lemmas.Bool.{le-leb, and_parts}
use Rattle.program_words.specs.Numbers.{is_number_text, number_of}

digits_pass : (ds : List ℕ) → AllDigits 10 ds → list_all (λ c. nat_lt (digit_value c) 10) ds ≡ true
digits_pass [] h = refl
digits_pass (d ∷ ds) h = rw (lt-ltb (digit_value d) 10 h.0) (digits_pass ds h.1)

digits_from : (ds : List ℕ) → list_all (λ c. nat_lt (digit_value c) 10) ds ≡ true → AllDigits 10 ds
digits_from [] e = tt
digits_from (d ∷ ds) e =
    let parts = and_parts _ _ e in
    (ltb-true _ _ parts.0, digits_from ds parts.1)

abbrev is_read : List ℕ → Bool
is_read text = is_number_text text && nat_lt (digits_value 10 text) (2 ^ 64)

-- of a text with no sign
plain_read : {E : Type 0} (text : List ℕ) (r : Result ℕ E) → length text ≤ 20 → OkIff r (IsNumeral 10 text × (digits_value 10 text < 2 ^ 64)) (digits_value 10 text) → result_ok r ≡ number_of text
plain_read text (Ok n) short h =
    rw (lt-ltb 0 (length text) h.0.0.0, le-leb (length text) 20 short, digits_pass text h.0.0.1, lt-ltb (digits_value 10 text) (2 ^ 64) h.0.1) (ap Some h.1)
plain_read text (Err e) short h = go (is_read text) refl
  where
    go : (b : Bool) → is_read text ≡ b → None ≡ number_of text
    go false t = rw t refl
    go true t =
        let outer = and_parts _ _ t in
        let inner = and_parts _ _ outer.0 in
        let last = and_parts _ _ inner.1 in
        absurd (h ((ltb-true _ _ inner.0, digits_from text last.1), ltb-true _ _ outer.1))

pub number_read : {E : Type 0} (text : List ℕ) (r : Result ℕ E) → length text ≤ 20 → (slice_index text 0 == 43) ≡ false → ParsesUnsigned 64 10 text r → result_ok r ≡ number_of text
number_read text r short unsigned h =
    plain_read text r short (subst (λ b. OkIff r (IsNumeral 10 (drop (cond b 1 0) text) × (digits_value 10 (drop (cond b 1 0) text) < 2 ^ 64)) (digits_value 10 (drop (cond b 1 0) text))) unsigned h)
