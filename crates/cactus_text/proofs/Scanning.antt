-- The number at the front of a text is the one that its first digits write.
use Rattle.std.proofs.Common.{◌≡◌, ◌≢◌, ℕ, zero, suc, ◌+◌, ◌<◌, ◌≤◌, ◌^◌, ◌++◌, ◌∷◌, [], List, length, take, get_or, ap, subst, ◌∙◌, sym, refl, append_assoc, length-append, lit≤, arith, ⊎_elim}
use Rattle.std.specs.Prelude.{slice_index}
use Rattle.std.specs.Fmt.{decimal}
use Rattle.std.specs.Char.{digit_value}
use Rattle.std.specs.Str.Parse.{digits_value, AllDigits}
use Rattle.std.proofs.lemmas.Bool.{cases_eq}
use Rattle.std.proofs.lemmas.Fmt.{decimal_is_IsNumeral, decimal-digits_value, decimal_digit, decimal_nonempty, first_decimal}
use Rattle.std.proofs.lemmas.List.{get_or-take, get_or-append-add, length-take, length-take-le, take_at}
use Rattle.std.proofs.lemmas.Str.Parse.{digits_value-take-le, numerals_by_value, tells_digits}
use Rattle.cactus_text.specs.Scanned.{IsLeading, IsRest}
use Rattle.answer_pages.specs.Text.{spaced}

digit_among : (ds : List ℕ) (i : ℕ) → AllDigits 10 ds → i < length ds → digit_value (get_or ds i 0) < 10
digit_among [] i h l = absurd (omega (arith, l))
digit_among (c ∷ ds) zero h l = h.0
digit_among (c ∷ ds) (suc i) h l = digit_among ds i h.1 (omega (arith, l))

-- one digit more
pub digits_more : (text : List ℕ) (i : ℕ) → i < length text → AllDigits 10 (take i text) → digit_value (get_or text i 0) < 10 → AllDigits 10 (take (suc i) text)
digits_more [] i l h d = absurd (omega (arith, l))
digits_more (c ∷ text) zero l h d = (d, tt)
digits_more (c ∷ text) (suc i) l h d = (h.0, digits_more text i (omega (arith, l)) h.1 d)

-- the first digits of a text are among those of the number at its front
pub leads_far : (text : List ℕ) (n k i : ℕ) → IsLeading text n k → i ≤ length text → AllDigits 10 (take i text) → i ≤ k
leads_far text n k i h w d =
    let inside : k < i → ⊥ = λ (l : k < i).
    let count : k < length (take i text) = omega (arith, length-take i text, w, l) in
    let digit : digit_value (get_or (take i text) k 0) < 10 = digit_among (take i text) k d count in
    let here : digit_value (get_or text k 0) < 10 = subst (λ c. digit_value c < 10) (get_or-take i text k 0 l) digit in
    omega (arith, h.ends, here) in
    omega (arith, inside)

-- if no digit follows these they are the whole number
pub leads_here : (text : List ℕ) (n k i : ℕ) → IsLeading text n k → 10 ≤ digit_value (slice_index text i) → k ≤ i
leads_here text n k i h e =
    let inside : i < k → ⊥ = λ (l : i < k).
    let digits : AllDigits 10 (take k text) = subst (AllDigits 10) (sym h.digits) (decimal_is_IsNumeral n h.small).0.1 in
    let count : i < length (take k text) = omega (arith, length-take k text, h.within, l) in
    let digit : digit_value (get_or (take k text) i 0) < 10 = digit_among (take k text) i digits count in
    let here : digit_value (get_or text i 0) < 10 = subst (λ c. digit_value c < 10) (get_or-take k text i 0 l) digit in
    omega (arith, e, here) in
    omega (arith, inside)

take_less : (i k : ℕ) (text : List ℕ) → i ≤ k → take i (take k text) ≡ take i text
take_less zero k text l = refl
take_less (suc i) zero text l = absurd (omega (arith, l))
take_less (suc i) (suc k) [] l = refl
take_less (suc i) (suc k) (c ∷ text) l = ap (λ (t : List ℕ). c ∷ t) (take_less i k text (omega (arith, l)))

-- the first digits write no more than the number
pub leads_more : (text : List ℕ) (n k i : ℕ) → IsLeading text n k → i ≤ k → digits_value 10 (take i text) ≤ n
leads_more text n k i h l =
    let all : digits_value 10 (take k text) ≡ n = ap (digits_value 10) h.digits ∙ (decimal_is_IsNumeral n h.small).1 in
    let part : digits_value 10 (take i (take k text)) ≤ digits_value 10 (take k text) = digits_value-take-le 10 (take k text) i (omega arith) in
    let same : take i (take k text) ≡ take i text = take_less i k text l in
    omega (arith, all, part, ap (digits_value 10) same)

-- digits without a leading zero are a number
pub leads : (text : List ℕ) (i : ℕ) → i ≤ length text → AllDigits 10 (take i text) → digits_value 10 (take i text) < 2 ^ 64
    → 0 < i → (1 < i → get_or text 0 0 ≢ 48) → 10 ≤ digit_value (slice_index text i) → IsLeading text (digits_value 10 (take i text)) i
leads text i w d small some plain e =
    let count : length (take i text) ≡ i = omega (arith, length-take i text, w) in
    let first : get_or (take i text) 0 0 ≡ get_or text 0 0 = get_or-take i text 0 0 some in
    let single : get_or (take i text) 0 0 ≡ 48 → length (take i text) ≡ 1 = λ (z : get_or (take i text) 0 0 ≡ 48).
    let low : 1 < i → ⊥ = λ (l : 1 < i). plain l (sym first ∙ z) in
    omega (arith, count, low, some) in
    record {
      small = small;
      within = w;
      digits = sym (decimal-digits_value (numerals_by_value (AllDigits 10) tells_digits) (take i text) d (omega (arith, count, some)) single small);
      ends = e;
    }

-- a number of more than one digit does not begin with a zero
pub leads_plain : (text : List ℕ) (n k : ℕ) → IsLeading text n k → 1 < k → get_or text 0 0 ≢ 48
leads_plain text n k h l z =
    let first : get_or (decimal n) 0 0 ≡ 48 = ap (λ (t : List ℕ). get_or t 0 0) (sym h.digits) ∙ get_or-take k text 0 0 (omega (arith, l)) ∙ z in
    let count : length (decimal n) ≡ k = sym (ap (length {A = ℕ}) h.digits) ∙ length-take-le k text h.within in
    ⊎_elim
    (λ (e : n ≡ 0). let one : length (decimal n) ≡ 1 = ap (λ m. length (decimal m)) e ∙ ap (length {A = ℕ}) (decimal_digit 0 (omega arith)) in omega (arith, count, one, l))
    (λ (ne : n ≡ 0 → ⊥). omega (arith, first_decimal n (omega (arith, ne)) h.small, first))
    (cases_eq n 0)

pub leads_some : (text : List ℕ) (n k : ℕ) → IsLeading text n k → 0 < k
leads_some text n k h = omega (arith, decimal_nonempty n h.small, ap (length {A = ℕ}) h.digits, length-take-le k text h.within)

after_number : (numbers : List ℕ) → 10 ≤ digit_value (slice_index (spaced numbers ++ 10 ∷ []) 0)
after_number [] = lit≤ tt
after_number (n ∷ ns) = lit≤ tt

-- the first number of the rest of a line is at its front
pub rest_leads : (text : List ℕ) (n : ℕ) (ns : List ℕ) → n < 2 ^ 64 → text ≡ decimal n ++ (spaced ns ++ 10 ∷ []) → IsLeading text n (length (decimal n))
rest_leads text n ns small e =
    let tail = spaced ns ++ 10 ∷ [] in
    let place : length (decimal n) + 0 ≡ length (decimal n) = omega arith in
    let first : slice_index text (length (decimal n)) ≡ slice_index tail 0 =
    ap (λ (t : List ℕ). get_or t (length (decimal n)) 0) e ∙ ap (λ k. get_or (decimal n ++ tail) k 0) (sym place) ∙ get_or-append-add (decimal n) tail 0 0 in
    record {
      small = small;
      within = omega (arith, ap (length {A = ℕ}) e, length-append (decimal n) tail);
      digits = ap (take (length (decimal n))) e ∙ take_at (decimal n) tail (length (decimal n)) refl;
      ends = subst (λ c. 10 ≤ digit_value c) (sym first) (after_number ns);
    }

-- a rest with a number begins with a space
pub rest_apart : (bytes : List ℕ) (n : ℕ) (ns : List ℕ) → IsRest bytes (n ∷ ns) → bytes ≡ 32 ∷ (decimal n ++ (spaced ns ++ 10 ∷ []))
rest_apart bytes n ns h = h.parts ∙ ap (λ (t : List ℕ). 32 ∷ t) (append_assoc (decimal n) (spaced ns) (10 ∷ []))

-- if neither a line feed nor a space and a number come next, it is no rest of a line
pub no_space_next : (bytes : List ℕ) → bytes ≢ 10 ∷ [] → ((rest : List ℕ) → bytes ≢ 32 ∷ rest) → (numbers : List ℕ) → IsRest bytes numbers → ⊥
no_space_next bytes e s [] h = e h.parts
no_space_next bytes e s (n ∷ ns) h = s (decimal n ++ (spaced ns ++ 10 ∷ [])) (rest_apart bytes n ns h)

pub no_number_next : (bytes text : List ℕ) → bytes ≢ 10 ∷ [] → bytes ≡ 32 ∷ text → ((n k : ℕ) → IsLeading text n k → ⊥) → (numbers : List ℕ) → IsRest bytes numbers → ⊥
no_number_next bytes text e s l [] h = e h.parts
no_number_next bytes text e s l (n ∷ ns) h =
    let apart = rest_apart bytes n ns h in
    let tails : text ≡ decimal n ++ (spaced ns ++ 10 ∷ []) = cc (s, apart) in
    l n (length (decimal n)) (rest_leads text n ns h.small.0 tails)
