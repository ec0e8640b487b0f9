-- The lines and words of a text of the first form are those of the profile.
use Rattle.std.proofs.Common.{◌≡◌, ◌<◌, ◌≤◌, ◌*◌, ◌^◌, ◌-◌, ℕ, suc, ◌+◌, Bool, true, false, ◌&&◌, List, [], ◌∷◌, length, Option, Some, None, refl, ap, sym, ◌∙◌, subst, arith, inl, inr}
use Rattle.std.specs.Prelude.{◌==◌, if◌then◌else◌, nat_lt}
use Rattle.std.specs.List.{filter, fold, list_all, slice_split, onto_first, sum_by}
use Rattle.std.specs.Char.{is_ascii_digit, digit_value}
use Rattle.std.specs.Str.Parse.{digits_value, digits_value_after}
use Rattle.std.proofs.lemmas.Bool.{cases_Bool, and_parts, and_from, ne_eqb, true≢false}
use Rattle.std.proofs.lemmas.Bool.Decides.{nat_tests}
use Rattle.std.proofs.lemmas.Option.{none-some, same_Some}
use Rattle.std.proofs.lemmas.Str.{digit_value_digit}
use Rattle.std.proofs.lemmas.List.Splits.{length-slice_split}
use Rattle.std.proofs.lemmas.List.Sums.{sum_by-cons}
use Rattle.metis_reader.specs.Text.{Piece, Line, is_line_feed, is_blank, fields, with_front, placed, has_bytes, line_of, numbered, lines, is_digit, decimal, is_number}
use Rattle.metis_reader.specs.Profile.{value}
use Rattle.metis_reader.specs.FirstForm.{number_of, onto, numbers_of, row_of, rows_of_lines, rows_of}
use Rattle.metis_reader.proofs.Digits.{digit_from}

-- Fields: what follows the last separator is dropped if it is empty.

abbrev pub kept : List ℕ → List (List ℕ)
kept [] = []
kept (b ∷ bytes) = (b ∷ bytes) ∷ []

abbrev pub without_last : List (List ℕ) → List (List ℕ)
without_last [] = []
without_last (part ∷ []) = kept part
without_last (part ∷ next ∷ parts) = part ∷ without_last (next ∷ parts)

behind_separator : (parts : List (List ℕ)) → 0 < length parts → [] ∷ without_last parts ≡ without_last ([] ∷ parts)
behind_separator [] h = absurd (omega arith)
behind_separator (part ∷ parts) h = refl

in_front : (b : ℕ) (parts : List (List ℕ)) → with_front b (without_last parts) ≡ without_last (onto_first b parts)
in_front b [] = refl
in_front b ([] ∷ []) = refl
in_front b ((c ∷ part) ∷ []) = refl
in_front b (part ∷ next ∷ parts) = refl

-- the fields are the parts, but for an empty last one
pub fields_split : (p : ℕ → Bool) (bytes : List ℕ) → fields p bytes ≡ without_last (slice_split p bytes)
fields_split p [] = refl
fields_split p (b ∷ bytes) =
    elim (cases_Bool (p b)) [
      | inl t ↦ rw t (ap (λ fs. [] ∷ fs) (fields_split p bytes) ∙ behind_separator (slice_split p bytes) (omega (arith, length-slice_split p bytes)))
      | inr f ↦ rw f (ap (with_front b) (fields_split p bytes) ∙ in_front b (slice_split p bytes))
    ]

-- If all are there, each is.

pub record Both {X : Type 0} (o : Option X) (others : Option (List X)) (all : List X) : Type 0 where
  pub first : X
  pub more : List X
  pub is_first : o ≡ Some first
  pub is_more : others ≡ Some more
  pub is_all : first ∷ more ≡ all

both : {X : Type 0} (o : Option X) (others : Option (List X)) (all : List X) → onto o others ≡ Some all → Both o others all
both None others all e = absurd (none-some all e)
both (Some x) None all e = absurd (none-some all e)
both (Some x) (Some xs) all e = record { first = x; more = xs; is_first = refl; is_more = refl; is_all = same_Some (x ∷ xs) all e }

-- Words.

digit_range : (b : ℕ) → is_ascii_digit b ≡ true → (48 ≤ b) × (b ≤ 57)
digit_range b h = (grind (arith, nat_tests), grind (arith, nat_tests))

no_blank : (b : ℕ) → is_ascii_digit b ≡ true → is_blank b ≡ false
no_blank b h = grind (arith, nat_tests)

no_percent : (b : ℕ) → is_ascii_digit b ≡ true → (b == 37) ≡ false
no_percent b h = grind (arith, nat_tests)

space_no_percent : (b : ℕ) → (b == 32) ≡ true → (b == 37) ≡ false
space_no_percent b h = grind (arith, nat_tests)

digits_are : (word : List ℕ) → list_all is_ascii_digit word ≡ true → list_all is_digit word ≡ true
digits_are [] h = refl
digits_are (b ∷ word) h =
    let parts = and_parts (is_ascii_digit b) (list_all is_ascii_digit word) h in
    and_from (is_digit b) (list_all is_digit word) (digit_from b parts.0) (digits_are word parts.1)

decimal_after : (n : ℕ) (word : List ℕ) → list_all is_ascii_digit word ≡ true → fold (λ n d. n * 10 + (d - 48)) n word ≡ digits_value_after 10 n word
decimal_after n [] h = refl
decimal_after n (b ∷ word) h =
    let parts = and_parts (is_ascii_digit b) (list_all is_ascii_digit word) h in
    let worth = digit_value_digit b (digit_range b parts.0) in
    let same : n * 10 + (b - 48) ≡ n * 10 + digit_value b = omega arith in
    decimal_after (n * 10 + (b - 48)) word parts.1 ∙ ap (λ n. digits_value_after 10 n word) same

if_some : (b : Bool) (x v : ℕ) → (if b then Some x else None) ≡ Some v → (b ≡ true) × (x ≡ v)
if_some true x v e = (refl, same_Some x v e)
if_some false x v e = absurd (none-some v e)

pub record IsPlain (word : List ℕ) (v : ℕ) : Type 0 where
  pub some : nat_lt 0 (length word) ≡ true
  pub digits : list_all is_ascii_digit word ≡ true
  pub number : is_number word ≡ true
  pub is_value : decimal word ≡ v

plain : (word : List ℕ) (v : ℕ) → number_of word ≡ Some v → IsPlain word v
plain word v e =
    let is = if_some ((nat_lt 0 (length word) && list_all is_ascii_digit word) && nat_lt (digits_value 10 word) (2 ^ 64)) (digits_value 10 word) v e in
    let parts = and_parts (nat_lt 0 (length word) && list_all is_ascii_digit word) (nat_lt (digits_value 10 word) (2 ^ 64)) is.0 in
    let front = and_parts (nat_lt 0 (length word)) (list_all is_ascii_digit word) parts.0 in
    let same : decimal word ≡ digits_value 10 word = decimal_after 0 word front.1 in
    record {
      some = front.0;
      digits = front.1;
      number = and_from (list_all is_digit word) (nat_lt (decimal word) (2 ^ 64)) (digits_are word front.1) (ap (λ n. nat_lt n (2 ^ 64)) same ∙ parts.1);
      is_value = same ∙ is.1;
    }

abbrev all_digits : List (List ℕ) → Bool
all_digits parts = list_all (λ part. list_all is_ascii_digit part) parts

plain_digits : (parts : List (List ℕ)) (vs : List ℕ) → numbers_of parts ≡ Some vs → all_digits parts ≡ true
plain_digits [] vs e = refl
plain_digits (part ∷ parts) vs e =
    let b = both (number_of part) (numbers_of parts) vs e in
    and_from (list_all is_ascii_digit part) (all_digits parts) (plain part b.first b.is_first).digits (plain_digits parts b.more b.is_more)

none_empty : (v : ℕ) → number_of [] ≡ Some v → ⊥
none_empty v e = let h = (plain [] v e).some in cc

plain_whole : (parts : List (List ℕ)) (vs : List ℕ) → numbers_of parts ≡ Some vs → without_last parts ≡ parts
plain_whole [] vs e = refl
plain_whole ([] ∷ parts) vs e = let b = both (number_of []) (numbers_of parts) vs e in absurd (none_empty b.first b.is_first)
plain_whole ((c ∷ part) ∷ []) vs e = refl
plain_whole ((c ∷ part) ∷ next ∷ parts) vs e =
    let b = both (number_of (c ∷ part)) (numbers_of (next ∷ parts)) vs e in
    ap (λ ps. (c ∷ part) ∷ ps) (plain_whole (next ∷ parts) b.more b.is_more)

first_digit : (b : ℕ) (parts : List (List ℕ)) → all_digits (onto_first b parts) ≡ true → (is_ascii_digit b ≡ true) × (all_digits parts ≡ true)
first_digit b [] h = ((and_parts (is_ascii_digit b) true (and_parts (list_all is_ascii_digit (b ∷ [])) true h).0).0, refl)
first_digit b (part ∷ parts) h =
    let whole = and_parts (list_all is_ascii_digit (b ∷ part)) (all_digits parts) h in
    let front = and_parts (is_ascii_digit b) (list_all is_ascii_digit part) whole.0 in
    (front.0, and_from (list_all is_ascii_digit part) (all_digits parts) front.1 whole.1)

-- among digits a space is the only blank
only_spaces : (bytes : List ℕ) → all_digits (slice_split (λ b. b == 32) bytes) ≡ true → fields is_blank bytes ≡ fields (λ b. b == 32) bytes
only_spaces [] h = refl
only_spaces (b ∷ bytes) h =
    elim (cases_Bool (b == 32)) [
      | inl t ↦ rw t (ap (λ fs. [] ∷ fs) (only_spaces bytes (rw t at h)))
      | inr f ↦
          let parts = first_digit b (slice_split (λ b. b == 32) bytes) (rw f at h) in
          rw (no_blank b parts.0, f) (ap (with_front b) (only_spaces bytes parts.1))
    ]

plain_begin : (b : ℕ) (bytes : List ℕ) → all_digits (slice_split (λ b. b == 32) (b ∷ bytes)) ≡ true → (b == 37) ≡ false
plain_begin b bytes h =
    elim (cases_Bool (b == 32)) [
      | inl t ↦ space_no_percent b t
      | inr f ↦ no_percent b (first_digit b (slice_split (λ b. b == 32) bytes) (rw f at h)).0
    ]

-- the words are numbers with these values
abbrev pub Writes : List Piece → List ℕ → Type 0
Writes [] [] = Unit {0}
Writes [] (v ∷ vs) = ⊥
Writes (word ∷ words) [] = ⊥
Writes (word ∷ words) (v ∷ vs) = (is_number word.bytes ≡ true) × (value word ≡ v) × Writes words vs

words_plain : (start : ℕ) (parts : List (List ℕ)) (vs : List ℕ) → numbers_of parts ≡ Some vs → Writes (filter has_bytes (placed start parts)) vs
words_plain start [] vs e = subst (λ vs. Writes [] vs) (same_Some [] vs e) tt
words_plain start ([] ∷ parts) vs e = let b = both (number_of []) (numbers_of parts) vs e in absurd (none_empty b.first b.is_first)
words_plain start ((c ∷ part) ∷ parts) vs e =
    let b = both (number_of (c ∷ part)) (numbers_of parts) vs e in
    let is = plain (c ∷ part) b.first b.is_first in
    subst (λ vs. Writes (filter has_bytes (placed start ((c ∷ part) ∷ parts))) vs) b.is_all
    (is.number, is.is_value, words_plain (suc (start + length (c ∷ part))) parts b.more b.is_more)

-- Lines.

abbrev pub IsRead : Line → List ℕ → Type 0
IsRead line vs = (line.is_comment ≡ false) × Writes line.words vs

line_plain : (number place : ℕ) (bytes vs : List ℕ) → row_of bytes ≡ Some vs → IsRead (line_of number (record { bytes = bytes; place = place })) vs
line_plain number place [] vs e = (refl, subst (λ vs. Writes [] vs) (same_Some [] vs e) tt)
line_plain number place (b ∷ bytes) vs e =
    let parts : List (List ℕ) = slice_split (λ b. b == 32) (b ∷ bytes) in
    let digits = plain_digits parts vs e in
    let fields_are : fields is_blank (b ∷ bytes) ≡ parts = only_spaces (b ∷ bytes) digits ∙ fields_split (λ b. b == 32) (b ∷ bytes) ∙ plain_whole parts vs e in (
      plain_begin b bytes digits,
      subst (λ fs. Writes (filter has_bytes (placed (place - length (b ∷ bytes)) fs)) vs) (sym fields_are) (words_plain (place - length (b ∷ bytes)) parts vs e),
    )

-- the lines have these numbers
abbrev pub Reads : List Line → List (List ℕ) → Type 0
Reads [] [] = Unit {0}
Reads [] (row ∷ rows) = ⊥
Reads (line ∷ lines) [] = ⊥
Reads (line ∷ lines) (row ∷ rows) = IsRead line row × Reads lines rows

not_zero : (n : ℕ) → (suc n == 0) ≡ false
not_zero n = ne_eqb (suc n) 0 (λ e. absurd (omega arith))

if_none : (b : Bool) (rows : List (List ℕ)) → b ≡ false → (if b then Some [] else None) ≡ Some rows → ⊥
if_none true rows f e = absurd (true≢false f)
if_none false rows f e = none-some rows e

empty_last : (line : List ℕ) (rows : List (List ℕ)) → (if length line == 0 then Some [] else None) ≡ Some rows → (line ≡ []) × ([] ≡ rows)
empty_last [] rows e = (refl, same_Some [] rows e)
empty_last (b ∷ line) rows e = absurd (if_none (length (b ∷ line) == 0) rows (not_zero (length line)) e)

lines_plain : (number start : ℕ) (parts rows : List (List ℕ)) → rows_of_lines parts ≡ Some rows → Reads (numbered number (placed start (without_last parts))) rows
lines_plain number start [] rows e = absurd (none-some rows e)
lines_plain number start (line ∷ []) rows e =
    let is = empty_last line rows e in
    subst (λ line. Reads (numbered number (placed start (kept line))) rows) (sym is.0) (subst (λ rows. Reads [] rows) is.1 tt)
lines_plain number start (line ∷ next ∷ parts) rows e =
    let b = both (row_of line) (rows_of_lines (next ∷ parts)) rows e in
    subst (λ rows. Reads (numbered number (placed start (without_last (line ∷ next ∷ parts)))) rows) b.is_all
    (line_plain number (start + length line) line b.first b.is_first, lines_plain (suc number) (suc (start + length line)) (next ∷ parts) b.more b.is_more)

-- the lines of a text are those that the first form reads, none is a comment, and their words write the same numbers
pub read_plain : (text : List ℕ) (rows : List (List ℕ)) → rows_of text ≡ Some rows → Reads (lines text) rows
read_plain text rows e =
    subst (λ fs. Reads (numbered 1 (placed 1 fs)) rows) (sym (fields_split is_line_feed text)) (lines_plain 1 1 (slice_split is_line_feed text) rows e)

-- A text has no more numbers than bytes, but for one.

abbrev spread : List (List ℕ) → ℕ
spread parts = sum_by (λ (part : List ℕ). suc (length part)) parts

spread_cons : (part : List ℕ) (parts : List (List ℕ)) → spread (part ∷ parts) ≡ suc (length part) + spread parts
spread_cons part parts = sum_by-cons (λ (part : List ℕ). suc (length part)) part parts

spread_front : (b : ℕ) (parts : List (List ℕ)) → 0 < length parts → spread (onto_first b parts) ≡ suc (spread parts)
spread_front b [] h = absurd (omega arith)
spread_front b (part ∷ parts) h =
    let long : spread ((b ∷ part) ∷ parts) ≡ suc (suc (length part)) + spread parts = spread_cons (b ∷ part) parts in
    let short : spread (part ∷ parts) ≡ suc (length part) + spread parts = spread_cons part parts in
    omega arith

spread_split : (p : ℕ → Bool) (bytes : List ℕ) → spread (slice_split p bytes) ≡ suc (length bytes)
spread_split p [] = refl
spread_split p (b ∷ bytes) =
    let rest : spread (slice_split p bytes) ≡ suc (length bytes) = spread_split p bytes in
    elim (cases_Bool (p b)) [
      | inl t ↦
          let next : spread ([] ∷ slice_split p bytes) ≡ 1 + spread (slice_split p bytes) = spread_cons [] (slice_split p bytes) in
          rw t (omega arith)
      | inr f ↦
          let next : spread (onto_first b (slice_split p bytes)) ≡ suc (spread (slice_split p bytes)) = spread_front b (slice_split p bytes) (omega (arith, length-slice_split p bytes)) in
          rw f (omega arith)
    ]

spread_many : (parts : List (List ℕ)) → length parts ≤ spread parts
spread_many [] = omega arith
spread_many (part ∷ parts) =
    let here : spread (part ∷ parts) ≡ suc (length part) + spread parts = spread_cons part parts in
    let rest : length parts ≤ spread parts = spread_many parts in
    omega arith

numbers_long : (parts : List (List ℕ)) (vs : List ℕ) → numbers_of parts ≡ Some vs → length vs ≡ length parts
numbers_long [] vs e = ap length (sym (same_Some [] vs e))
numbers_long (part ∷ parts) vs e =
    let b = both (number_of part) (numbers_of parts) vs e in
    let rest : length b.more ≡ length parts = numbers_long parts b.more b.is_more in
    let all : suc (length b.more) ≡ length vs = ap length b.is_all in
    omega arith

row_short : (line vs : List ℕ) → row_of line ≡ Some vs → length vs ≤ suc (length line)
row_short [] vs e = let none : 0 ≡ length vs = ap length (same_Some [] vs e) in omega arith
row_short (b ∷ line) vs e =
    let parts : List (List ℕ) = slice_split (λ b. b == 32) (b ∷ line) in
    let long : length vs ≡ length parts = numbers_long parts vs e in
    let many : length parts ≤ spread parts = spread_many parts in
    let all : spread parts ≡ suc (length (b ∷ line)) = spread_split (λ b. b == 32) (b ∷ line) in
    omega arith

rows_short : (parts rows : List (List ℕ)) → rows_of_lines parts ≡ Some rows → sum_by length rows ≤ spread parts
rows_short [] rows e = absurd (none-some rows e)
rows_short (line ∷ []) rows e = let none : 0 ≡ sum_by length rows = ap (λ rows. sum_by length rows) (empty_last line rows e).1 in omega arith
rows_short (line ∷ next ∷ parts) rows e =
    let b = both (row_of line) (rows_of_lines (next ∷ parts)) rows e in
    let here : length b.first ≤ suc (length line) = row_short line b.first b.is_first in
    let rest : sum_by length b.more ≤ spread (next ∷ parts) = rows_short (next ∷ parts) b.more b.is_more in
    let all : sum_by length (b.first ∷ b.more) ≡ sum_by length rows = ap (λ rows. sum_by length rows) b.is_all in
    let sum : sum_by length (b.first ∷ b.more) ≡ length b.first + sum_by length b.more = sum_by-cons (λ (row : List ℕ). length row) b.first b.more in
    let spread_is : spread (line ∷ next ∷ parts) ≡ suc (length line) + spread (next ∷ parts) = spread_cons line (next ∷ parts) in
    omega arith

pub few_numbers : (text : List ℕ) (rows : List (List ℕ)) → rows_of text ≡ Some rows → sum_by length rows ≤ suc (length text)
few_numbers text rows e =
    let short : sum_by length rows ≤ spread (slice_split (λ b. b == 10) text) = rows_short (slice_split (λ b. b == 10) text) rows e in
    let all : spread (slice_split (λ b. b == 10) text) ≡ suc (length text) = spread_split (λ b. b == 10) text in
    omega arith
