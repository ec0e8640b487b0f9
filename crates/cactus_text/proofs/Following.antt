-- Numbers taken off a line one after another.
use Rattle.std.proofs.Common.{◌≡◌, ◌≢◌, ℕ, ◌+◌, ◌<◌, ◌≤◌, ◌^◌, ◌++◌, ◌∷◌, [], List, length, take, drop, get_or, ap, subst, ◌∙◌, sym, refl, arith, append_assoc, append-nil, length-append}
use Rattle.std.specs.Prelude.{Option, Some, None, slice_index}
use Rattle.std.specs.Fmt.{decimal}
use Rattle.std.specs.Char.{digit_value}
use Rattle.std.specs.Str.Parse.{AllDigits}
use Rattle.std.proofs.lemmas.Fmt.{decimal_is_IsNumeral, decimal_injective}
use Rattle.std.proofs.lemmas.List.{take_at, drop_at, get_or-append-add}
use Rattle.answer_pages.specs.Text.{spaced, line}
use Rattle.cactus_text.specs.Reading.{numbers_of}
use Rattle.cactus_text.specs.Scanned.{IsRest, IsLeading, TakesNumber, Follows, IsWord}
use Rattle.cactus_text.proofs.Numbers.{numbers_line, numbers_some}
use Rattle.cactus_text.proofs.Scanning.{leads_far, rest_leads, rest_apart}

takes_forward : (old : List ℕ) (n : ℕ) (new more : List ℕ) → TakesNumber old n new → IsRest new more → IsRest old (n ∷ more)
takes_forward old n new more t h = record {
  parts = t.parts ∙ ap (λ (l : List ℕ). 32 ∷ (decimal n ++ l)) h.parts ∙ ap (λ (l : List ℕ). 32 ∷ l) (sym (append_assoc (decimal n) (spaced more) (10 ∷ [])));
  small = (t.small, h.small);
}

leads_new : (n : ℕ) (new : List ℕ) → n < 2 ^ 64 → 10 ≤ digit_value (slice_index new 0) → IsLeading (decimal n ++ new) n (length (decimal n))
leads_new n new small e =
    let place : length (decimal n) + 0 ≡ length (decimal n) = omega arith in
    let first : slice_index (decimal n ++ new) (length (decimal n)) ≡ slice_index new 0 =
    ap (λ k. get_or (decimal n ++ new) k 0) (sym place) ∙ get_or-append-add (decimal n) new 0 0 in
    record {
      small = small;
      within = omega (arith, length-append (decimal n) new);
      digits = take_at (decimal n) new (length (decimal n)) refl;
      ends = subst (λ c. 10 ≤ digit_value c) (sym first) e;
    }

-- a number at the front of a text is the only one
leads_once : (text : List ℕ) (n k m j : ℕ) → IsLeading text n k → IsLeading text m j → (n ≡ m) × (k ≡ j)
leads_once text n k m j a b =
    let digits : (i p : ℕ) → IsLeading text p i → AllDigits 10 (take i text) = λ i p h. subst (AllDigits 10) (sym h.digits) (decimal_is_IsNumeral p h.small).0.1 in
    let one : k ≤ j = leads_far text m j k b a.within (digits k n a) in
    let two : j ≤ k = leads_far text n k j a b.within (digits j m b) in
    let same : k ≡ j = omega (arith, one, two) in
    let number : n ≡ m = decimal_injective n m a.small b.small (sym a.digits ∙ ap (λ i. take i text) same ∙ b.digits) in
    (number, same)

takes_back : (old : List ℕ) (n : ℕ) (new all : List ℕ) → TakesNumber old n new → IsRest old all → (more : List ℕ) × (all ≡ n ∷ more) × IsRest new more
takes_back old n new [] t h =
    let both : 32 ∷ (decimal n ++ new) ≡ 10 ∷ [] = sym t.parts ∙ h.parts in
    let heads : 32 ≡ 10 = ap (λ (l : List ℕ). slice_index l 0) both in
    absurd (omega (arith, heads))
takes_back old n new (m ∷ ms) t h =
    let tail = spaced ms ++ 10 ∷ [] in
    let both : 32 ∷ (decimal n ++ new) ≡ 32 ∷ (decimal m ++ tail) = sym t.parts ∙ rest_apart old m ms h in
    let text : decimal n ++ new ≡ decimal m ++ tail = ap (drop 1) both in
    let first = leads_new n new t.small t.ends in
    let second = rest_leads (decimal n ++ new) m ms h.small.0 text in
    let once = leads_once (decimal n ++ new) n (length (decimal n)) m (length (decimal m)) first second in
    let rest : new ≡ tail =
    sym (drop_at (decimal n) new (length (decimal n)) refl) ∙ ap (drop (length (decimal n))) text
    ∙ ap (λ k. drop k (decimal m ++ tail)) once.1 ∙ drop_at (decimal m) tail (length (decimal m)) refl in
    (ms, ap (λ k. k ∷ ms) (sym once.0), record { parts = rest; small = h.small.1 })

-- one number more was taken
pub follows_more : (start numbers old : List ℕ) (n : ℕ) (new : List ℕ) → Follows start numbers old → TakesNumber old n new → Follows start (numbers ++ n ∷ []) new
follows_more start numbers old n new f t =
    let forward : (more : List ℕ) → IsRest new more → IsRest start ((numbers ++ n ∷ []) ++ more) = λ more h.
    subst (IsRest start) (sym (append_assoc numbers (n ∷ []) more)) (f.forward (n ∷ more) (takes_forward old n new more t h)) in
    let back : (all : List ℕ) → IsRest start all → (more : List ℕ) × (all ≡ (numbers ++ n ∷ []) ++ more) × IsRest new more = λ all h.
    let (some, is, rest) = f.back all h in
    let (more, such, last) = takes_back old n new some t rest in
    (more, is ∙ ap (λ (l : List ℕ). numbers ++ l) such ∙ sym (append_assoc numbers (n ∷ []) more), last) in
    record { forward = forward; back = back }

-- the line ends: these are its numbers
pub follows_end : (word bytes start numbers : List ℕ) → IsWord word → bytes ≡ word ++ start → Follows start numbers (10 ∷ []) → numbers_of word bytes ≡ Some numbers
follows_end word bytes start numbers w e f =
    let whole = f.forward [] (record { parts = refl; small = tt }) in
    let all : IsRest start numbers = subst (IsRest start) (append-nil numbers) whole in
    let such : bytes ≡ line word numbers = e ∙ ap (λ (l : List ℕ). word ++ l) all.parts ∙ sym (append_assoc word (spaced numbers) (10 ∷ [])) in
    ap (numbers_of word) such ∙ numbers_line word numbers w all.small

-- the numbers of a line are after its word
pub rest_of : (word bytes start all : List ℕ) → bytes ≡ word ++ start → numbers_of word bytes ≡ Some all → IsRest start all
rest_of word bytes start all e h =
    let (such, small) = numbers_some word bytes all h in
    let same : word ++ start ≡ word ++ (spaced all ++ 10 ∷ []) = sym e ∙ such ∙ append_assoc word (spaced all) (10 ∷ []) in
    let rest : start ≡ spaced all ++ 10 ∷ [] =
    sym (drop_at word start (length word) refl) ∙ ap (drop (length word)) same ∙ drop_at word (spaced all ++ 10 ∷ []) (length word) refl in
    record { parts = rest; small = small }

pub not_word : (word bytes : List ℕ) → ((rest : List ℕ) → bytes ≢ word ++ rest) → (numbers : List ℕ) → numbers_of word bytes ≡ Some numbers → ⊥
not_word word bytes h numbers e =
    let (such, small) = numbers_some word bytes numbers e in
    h (spaced numbers ++ 10 ∷ []) (such ∙ append_assoc word (spaced numbers) (10 ∷ []))

nothing_more : (count : ℕ) (rest more : List ℕ) → ((n : ℕ) (ms : List ℕ) → IsRest rest (n ∷ ms) → ⊥) → IsRest rest more → count + length more ≡ count
nothing_more count rest [] none l = omega arith
nothing_more count rest (n ∷ ms) none l = absurd (none n ms l)

-- if no number comes next the line has those that were taken, or none
pub no_more : (word bytes start numbers rest all : List ℕ) → bytes ≡ word ++ start → Follows start numbers rest
    → ((n : ℕ) (ms : List ℕ) → IsRest rest (n ∷ ms) → ⊥) → numbers_of word bytes ≡ Some all → length all ≡ length numbers
no_more word bytes start numbers rest all e f none h =
    let (more, is, last) = f.back all (rest_of word bytes start all e h) in
    ap (length {A = ℕ}) is ∙ length-append numbers more ∙ nothing_more (length numbers) rest more none last

something_more : (count : ℕ) (rest more : List ℕ) → rest ≢ 10 ∷ [] → IsRest rest more → count < count + length more
something_more count rest [] e l = absurd (e l.parts)
something_more count rest (n ∷ ms) e l = omega arith

-- if the line does not end it has more numbers, or none
pub some_more : (word bytes start numbers rest all : List ℕ) → bytes ≡ word ++ start → Follows start numbers rest → rest ≢ 10 ∷ []
    → numbers_of word bytes ≡ Some all → length numbers < length all
some_more word bytes start numbers rest all e f open_ h =
    let (more, is, last) = f.back all (rest_of word bytes start all e h) in
    omega (arith, ap (length {A = ℕ}) is, length-append numbers more, something_more (length numbers) rest more open_ last)

-- if no rest of a line follows the numbers that were taken, the line states none
pub broken_off : (word bytes start numbers rest all : List ℕ) → bytes ≡ word ++ start → Follows start numbers rest
    → ((ms : List ℕ) → IsRest rest ms → ⊥) → numbers_of word bytes ≡ Some all → ⊥
broken_off word bytes start numbers rest all e f none h = let (more, is, last) = f.back all (rest_of word bytes start all e h) in none more last

nothing_of : (o : Option (List ℕ)) → ((numbers : List ℕ) → o ≡ Some numbers → ⊥) → o ≡ None
nothing_of None h = refl
nothing_of (Some numbers) h = absurd (h numbers refl)

pub none_of : (word bytes : List ℕ) → ((numbers : List ℕ) → numbers_of word bytes ≡ Some numbers → ⊥) → numbers_of word bytes ≡ None
none_of word bytes h = nothing_of (numbers_of word bytes) h
