-- A line states the numbers whose line it is, and no others.
use Rattle.std.proofs.Common.{◌≡◌, ℕ, Bool, true, false, ◌-◌, ◌<◌, ◌^◌, ◌==◌, ◌&&◌, ◌++◌, ◌∷◌, [], List, length, take, drop, map, ap, subst, ◌∙◌, refl, arith, length-append, append-nil, ne_eqb}
use Rattle.std.specs.Prelude.{Option, Some, None, nat_lt, if◌then◌else◌}
use Rattle.std.specs.List.{list_all}
use Rattle.std.specs.Fmt.{decimal}
use Rattle.std.specs.Char.{digit_value}
use Rattle.std.specs.Str.{bytes_eq}
use Rattle.std.specs.Str.Parse.{digits_value, AllDigits}
use Rattle.std.proofs.lemmas.Bool.{lt-ltb, ltb-true}
use Rattle.std.proofs.lemmas.Fmt.{decimal_is_IsNumeral}
use Rattle.std.proofs.lemmas.List.{take_at}
use Rattle.std.proofs.lemmas.Slice.Eq.{bytes_eq-Decides}
use Rattle.cut_definitions.proofs.Bools.{and_first, and_second}
use Rattle.answer_pages.specs.Text.{spaced, line}
use Rattle.cactus_text.specs.Reading.{with_front, words, values, numbers_of}
use Rattle.cactus_text.specs.Scanned.{AreSmall, IsWord}

no_space : (c : ℕ) → digit_value c < 10 → (c == 32) ≡ false
no_space c d = ne_eqb c 32 (λ e. let s : digit_value 32 < 10 = subst (λ k. digit_value k < 10) e d in omega (arith, s))

digits_alone : (w : List ℕ) → AllDigits 10 w → words w ≡ w ∷ []
digits_alone [] h = refl
digits_alone (c ∷ w) h =
    ap (λ (b : Bool). if b then [] ∷ words w else with_front c (words w)) (no_space c h.0) ∙ ap (with_front c) (digits_alone w h.1)

digits_apart : (w rest : List ℕ) → AllDigits 10 w → words (w ++ 32 ∷ rest) ≡ w ∷ words rest
digits_apart [] rest h = refl
digits_apart (c ∷ w) rest h =
    ap (λ (b : Bool). if b then [] ∷ words (w ++ 32 ∷ rest) else with_front c (words (w ++ 32 ∷ rest))) (no_space c h.0) ∙ ap (with_front c) (digits_apart w rest h.1)

pub decimal_word : (n : ℕ) → n < 2 ^ 64 → IsWord (decimal n)
decimal_word n h =
    let digits = (decimal_is_IsNumeral n h).0.1 in
    record { alone = digits_alone (decimal n) digits; apart = λ rest. digits_apart (decimal n) rest digits }

words_spaced : (word numbers : List ℕ) → IsWord word → AreSmall numbers → words (word ++ spaced numbers) ≡ word ∷ map decimal numbers
words_spaced word [] w s = ap words (append-nil word) ∙ w.alone
words_spaced word (n ∷ ns) w s = w.apart (decimal n ++ spaced ns) ∙ ap (λ ws. word ∷ ws) (words_spaced (decimal n) ns (decimal_word n s.0) s.1)

values_back : (numbers : List ℕ) → AreSmall numbers → map (digits_value 10) (map decimal numbers) ≡ numbers
values_back [] s = refl
values_back (n ∷ ns) s = ap (λ k. k ∷ map (digits_value 10) (map decimal ns)) (decimal_is_IsNumeral n s.0).1 ∙ ap (λ ks. n ∷ ks) (values_back ns s.1)

pub values_line : (word numbers : List ℕ) → IsWord word → AreSmall numbers → values (line word numbers) ≡ numbers
values_line word numbers w s =
    let whole = word ++ spaced numbers in
    let count : length (whole ++ 10 ∷ []) - 1 ≡ length whole = omega (arith, length-append whole (10 ∷ [])) in
    ap (λ n. map (digits_value 10) (drop 1 (words (take n (whole ++ 10 ∷ []))))) count
    ∙ ap (λ l. map (digits_value 10) (drop 1 (words l))) (take_at whole (10 ∷ []) (length whole) refl)
    ∙ ap (λ ws. map (digits_value 10) (drop 1 ws)) (words_spaced word numbers w s)
    ∙ values_back numbers s

small_test : (numbers : List ℕ) → AreSmall numbers → list_all (λ n. nat_lt n (2 ^ 64)) numbers ≡ true
small_test [] s = refl
small_test (n ∷ ns) s = ap (λ b. b && list_all (λ n. nat_lt n (2 ^ 64)) ns) (lt-ltb n (2 ^ 64) s.0) ∙ small_test ns s.1

bytes_same : (bytes : List ℕ) → bytes_eq bytes bytes ≡ true
bytes_same bytes = (bytes_eq-Decides bytes bytes).1 refl

-- the numbers of a line are found
pub numbers_line : (word numbers : List ℕ) → IsWord word → AreSmall numbers → numbers_of word (line word numbers) ≡ Some numbers
numbers_line word numbers w s =
    let bytes = line word numbers in
    let tested : List ℕ → Option (List ℕ) = λ vs. if bytes_eq bytes (line word vs) && list_all (λ n. nat_lt n (2 ^ 64)) vs then Some vs else None in
    ap tested (values_line word numbers w s)
    ∙ ap (λ b. if b && list_all (λ n. nat_lt n (2 ^ 64)) numbers then Some numbers else None) (bytes_same bytes)
    ∙ ap (λ b. if b then Some numbers else None) (small_test numbers s)

small_from : (numbers : List ℕ) → list_all (λ n. nat_lt n (2 ^ 64)) numbers ≡ true → AreSmall numbers
small_from [] h = tt
small_from (n ∷ ns) h = (ltb-true n (2 ^ 64) (and_first _ _ h), small_from ns (and_second _ _ h))

some_of : (b : Bool) (vs ns : List ℕ) → (if b then Some vs else None) ≡ Some ns → (b ≡ true) × (vs ≡ ns)
some_of true vs ns e = (refl, cc e)
some_of false vs ns e = absurd (cc e)

-- numbers that are found have this line
pub numbers_some : (word bytes numbers : List ℕ) → numbers_of word bytes ≡ Some numbers → (bytes ≡ line word numbers) × AreSmall numbers
numbers_some word bytes numbers h =
    let vs = values bytes in
    let same = bytes_eq bytes (line word vs) in
    let small = list_all (λ n. nat_lt n (2 ^ 64)) vs in
    let (passed, are) = some_of (same && small) vs numbers h in
    ((bytes_eq-Decides bytes (line word vs)).0 (and_first same small passed) ∙ ap (line word) are, subst AreSmall are (small_from vs (and_second same small passed)))
