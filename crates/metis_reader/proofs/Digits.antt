-- Digits that lengthen a word.
use Rattle.std.proofs.Common.{◌≡◌, ◌≤◌, ◌<◌, ◌-◌, ◌+◌, ◌*◌, ◌^◌, ℕ, suc, true, false, List, [], ◌∷◌, ◌++◌, length, get_or, fold, min, arith, append_assoc, length-append, subst, sym, ap, refl, ◌∙◌}
use Rattle.std.specs.Prelude.{◌==◌, ◌&&◌, nat_lt}
use Rattle.std.specs.List.{list_all}
use Rattle.std.specs.Char.{is_ascii_digit}
use Rattle.std.proofs.lemmas.Bool.{and_parts, and_from, lt-ltb}
use Rattle.std.proofs.lemmas.Bool.Decides.{nat_tests}
use Rattle.std.proofs.lemmas.Grind.{common_steps}
use Rattle.std.proofs.lemmas.List.{append-nil}
use Rattle.std.proofs.lemmas.List.Sums.{fold-append}
use Rattle.std.proofs.lemmas.List.Folds.{list_all-append}
use Rattle.metis_reader.specs.declared.line_part.LinePart.{LinePart}
use Rattle.metis_reader.specs.declared.line_part.LinePart.TheVariants.{Start, Words, Comment}
use Rattle.metis_reader.specs.declared.parser.Parser.{Parser}
use Rattle.metis_reader.specs.declared.word.Word.{Word}
use Rattle.metis_reader.specs.Text.{is_line_feed, is_blank, is_digit, decimal}
use Rattle.metis_reader.specs.Words.{IsWord}
use Rattle.metis_reader.specs.Machine.{State}
use Rattle.metis_reader.specs.Reading.{Reading, byte_findings, byte_findings_by, after_byte, after_byte_by, bytes_findings, reading_from}
use Rattle.metis_reader.specs.Shown.{Shows}
use Rattle.metis_reader.specs.Holding.{Holds}
use Rattle.metis_reader.proofs.Runs.{run, run_next, run_none}

abbrev pub more_digit : ℕ → ℕ → ℕ
more_digit n d = n * 10 + (d - 48)

-- the digits from one place to another, and the number that they make of another
pub record AreDigits (bytes : List ℕ) (from end start now : ℕ) : Type 0 where
  pub low : from ≤ end
  pub high : end ≤ length bytes
  pub digits : list_all is_digit (run from end bytes) ≡ true
  pub value : now ≡ fold more_digit start (run from end bytes)

pub run_length : (from end : ℕ) (bytes : List ℕ) → from ≤ end → end ≤ length bytes → length (run from end bytes) ≡ end - from
run_length from end bytes le high = grind (arith, common_steps)

pub digit_of : (b : ℕ) → 48 ≤ b → b ≤ 57 → is_digit b ≡ true
digit_of b low high = grind (arith, nat_tests)

pub digit_from : (b : ℕ) → is_ascii_digit b ≡ true → is_digit b ≡ true
digit_from b h = grind (arith, nat_tests)

pub digits_more : (bytes : List ℕ) (from end start value : ℕ) → end < length bytes → is_digit (get_or bytes end 0) ≡ true → AreDigits bytes from end start value
    → AreDigits bytes from (end + 1) start (value * 10 + (get_or bytes end 0 - 48))
digits_more bytes from end start value lt digit h =
    let b : ℕ = get_or bytes end 0 in
    let low : from ≤ end = h.low in
    let next : run from (end + 1) bytes ≡ run from end bytes ++ b ∷ [] = run_next from end bytes low lt in
    record {
      low = omega arith;
      high = omega arith;
      digits = ap (λ xs. list_all is_digit xs) next ∙ list_all-append is_digit (run from end bytes) (b ∷ []) ∙ and_from (list_all is_digit (run from end bytes)) (is_digit b && true) h.digits (and_from (is_digit b) true digit refl);
      value = ap (λ n. n * 10 + (b - 48)) h.value ∙ sym (fold-append more_digit start (run from end bytes) (b ∷ [])) ∙ sym (ap (λ xs. fold more_digit start xs) next);
    }

-- the word with them
pub word_digits : (word longer : Word) (bytes digits : List ℕ) → word.is_number ≡ true → IsWord word bytes → list_all is_digit digits ≡ true → longer.is_number ≡ true
    → longer.value ≡ fold more_digit word.value digits → longer.value < 2 ^ 64 → longer.length ≡ min (word.length + length digits) 255 → IsWord longer (bytes ++ digits)
word_digits word longer bytes digits number is all longer_number value fits len =
    let so_far = and_parts (list_all is_digit bytes) (nat_lt (decimal bytes) (2 ^ 64)) (sym is.is_number ∙ number) in
    let old : word.value ≡ decimal bytes = is.value number in
    let whole : longer.value ≡ decimal (bytes ++ digits) = value ∙ ap (λ n. fold more_digit n digits) old ∙ sym (fold-append more_digit 0 bytes digits) in
    let every : list_all is_digit (bytes ++ digits) ≡ true = list_all-append is_digit bytes digits ∙ and_from (list_all is_digit bytes) (list_all is_digit digits) so_far.0 all in
    let below : nat_lt (decimal (bytes ++ digits)) (2 ^ 64) ≡ true = subst (λ n. nat_lt n (2 ^ 64) ≡ true) whole (lt-ltb longer.value (2 ^ 64) fits) in
    let was : word.length ≡ min (length bytes) 255 = is.length in
    record {
      length = omega (arith, length-append bytes digits);
      is_number = longer_number ∙ sym (and_from (list_all is_digit (bytes ++ digits)) (nat_lt (decimal (bytes ++ digits)) (2 ^ 64)) every below);
      value = λ yes. whole;
    }

-- What a reading makes of digits.

digit_step : (part : LinePart) (s : State) (word : List ℕ) (ended next b : ℕ) → (part ≡ Comment → ⊥)
    → (byte_findings_by false false (record { state = s; part = part; word = word; ended = ended; next = next }) ≡ [])
    × (after_byte_by false false false (record { state = s; part = part; word = word; ended = ended; next = next }) b ≡ record { state = s; part = Words; word = word ++ b ∷ []; ended = ended; next = suc next })
digit_step Start s word ended next b apart = (refl, refl)
digit_step Words s word ended next b apart = (refl, refl)
digit_step Comment s word ended next b apart = absurd (apart refl)

not_feed : (b : ℕ) → is_digit b ≡ true → is_line_feed b ≡ false
not_feed b h = grind (arith, nat_tests)

not_blank : (b : ℕ) → is_digit b ≡ true → is_blank b ≡ false
not_blank b h = grind (arith, nat_tests)

not_percent : (b : ℕ) → is_digit b ≡ true → (b == 37) ≡ false
not_percent b h = grind (arith, nat_tests)

abbrev pub next_reading : Reading → ℕ → Reading
next_reading r b = record { state = r.state; part = Words; word = r.word ++ b ∷ []; ended = r.ended; next = suc r.next }

digit_read : (r : Reading) (b : ℕ) → is_digit b ≡ true → (r.part ≡ Comment → ⊥) → (byte_findings r b ≡ []) × (after_byte r b ≡ next_reading r b)
digit_read r b digit apart = rw (not_feed b digit, not_blank b digit, not_percent b digit) (digit_step r.part r.state r.word r.ended r.next b apart)

abbrev pub part_behind : LinePart → List ℕ → LinePart
part_behind part [] = part
part_behind part (b ∷ bytes) = Words

words_behind : (bytes : List ℕ) → part_behind Words bytes ≡ Words
words_behind [] = refl
words_behind (b ∷ bytes) = refl

pub in_words : (part : LinePart) (bytes : List ℕ) → 0 < length bytes → part_behind part bytes ≡ Words
in_words part [] some = absurd (omega arith)
in_words part (b ∷ bytes) some = refl

record IsRead (r : Reading) (digits : List ℕ) : Type 0 where
  findings : bytes_findings r digits ≡ []
  state : (reading_from r digits).state ≡ r.state
  part : (reading_from r digits).part ≡ part_behind r.part digits
  word : (reading_from r digits).word ≡ r.word ++ digits
  ended : (reading_from r digits).ended ≡ r.ended

no_comment : Words ≡ Comment → ⊥
no_comment e = cc

digits_read : (digits : List ℕ) (r : Reading) → list_all is_digit digits ≡ true → (r.part ≡ Comment → ⊥) → IsRead r digits
digits_read [] r all apart = record { findings = refl; state = refl; part = refl; word = sym (append-nil r.word); ended = refl }
digits_read (b ∷ digits) r all apart =
    let parts = and_parts (is_digit b) (list_all is_digit digits) all in
    let step = digit_read r b parts.0 apart in
    let rest : IsRead (next_reading r b) digits = digits_read digits (next_reading r b) parts.1 no_comment in
    let more : IsRead (after_byte r b) digits = subst (λ s. IsRead s digits) (sym step.1) rest in
    record {
      findings = ap (λ fs. fs ++ bytes_findings (after_byte r b) digits) step.0 ∙ more.findings;
      state = more.state ∙ ap (λ (s : Reading). s.state) step.1;
      part = more.part ∙ ap (λ (s : Reading). part_behind s.part digits) step.1 ∙ words_behind digits;
      word = more.word ∙ ap (λ (s : Reading). s.word ++ digits) step.1 ∙ append_assoc r.word (b ∷ []) digits;
      ended = more.ended ∙ ap (λ (s : Reading). s.ended) step.1;
    }

-- and what a reader holds after them
pub digits_held : (parser : Parser) (line : ℕ) (part : LinePart) (word longer : Word) (r : Reading) (digits : List ℕ) → list_all is_digit digits ≡ true → (part ≡ Comment → ⊥)
    → ((bytes : List ℕ) → IsWord word bytes → IsWord longer (bytes ++ digits)) → Holds parser line part word r
    → (bytes_findings r digits ≡ []) × Holds parser line (part_behind part digits) longer (reading_from r digits)
digits_held parser line part word longer r digits all apart grows holds =
    let read : IsRead r digits = digits_read digits r all (λ e. apart (holds.same_part ∙ e)) in (
      read.findings,
      record {
        state = subst (λ s. Shows parser.due parser.header parser.body s) (sym read.state) holds.state;
        same_line = holds.same_line ∙ ap (λ n. suc n) (sym read.ended);
        same_part = ap (λ part. part_behind part digits) holds.same_part ∙ sym read.part;
        same_word = subst (λ bytes. IsWord longer bytes) (sym read.word) (grows r.word holds.same_word);
      },
    )

-- if nothing is read, all stays as it was
pub none_read : (parser : Parser) (line : ℕ) (part : LinePart) (word : Word) (r : Reading) (from : ℕ) (bytes : List ℕ) → Holds parser line part word r →
    (bytes_findings r (run from from bytes) ≡ []) × Holds parser line part word (reading_from r (run from from bytes))
none_read parser line part word r from bytes holds =
    subst (λ (read : List ℕ). (bytes_findings r read ≡ []) × Holds parser line part word (reading_from r read)) (sym (run_none from bytes)) (refl, holds)
