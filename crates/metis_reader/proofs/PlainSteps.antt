-- A word of digits, and the blank or the line feed that ends it, after the bytes up to a place.
use Rattle.std.proofs.Common.{◌≡◌, ◌≢◌, ◌<◌, ◌≤◌, ◌+◌, ℕ, suc, true, List, [], ◌∷◌, ◌++◌, length, take, drop, get_or, refl, sym, subst, arith}
use Rattle.std.specs.Prelude.{◌==◌}
use Rattle.std.specs.List.{list_all}
use Rattle.metis_reader.specs.declared.fault.ReadRefusal.{ReadRefusal}
use Rattle.metis_reader.specs.declared.line_part.LinePart.{LinePart}
use Rattle.metis_reader.specs.declared.line_part.LinePart.TheVariants.{Start, Words, Comment}
use Rattle.metis_reader.specs.declared.parser.Parser.{Parser}
use Rattle.metis_reader.specs.declared.word.Word.{Word}
use Rattle.metis_reader.specs.Text.{is_blank, is_digit}
use Rattle.metis_reader.specs.Words.{IsWord}
use Rattle.metis_reader.specs.Machine.{State}
use Rattle.metis_reader.specs.Shown.{EndsHeader}
use Rattle.metis_reader.specs.Reading.{Reading, bytes_findings, reading_from, word_end, word_end_state, line_end, line_end_state}
use Rattle.metis_reader.specs.Holding.{ParserShows, RefusedFirst, BytesEndHeader}
use Rattle.metis_reader.proofs.Running.{refused_at}
use Rattle.metis_reader.proofs.Runs.{run, ReadTo, read_on}
use Rattle.metis_reader.proofs.Digits.{part_behind, digits_held}
use Rattle.metis_reader.proofs.PlainWords.{split_at, read_next, no_bytes, blank_taken, blank_refused, feed_taken, feed_refused}

abbrev pub no_word : Word
no_word = record { length = 0; is_number = true; value = 0 }

no_word_is : IsWord no_word []
no_word_is = record { length = omega arith; is_number = refl; value = λ is. refl }

as_no_word : (word : Word) (bytes : List ℕ) → (word.length == 0) ≡ true → IsWord word bytes → IsWord no_word bytes
as_no_word word bytes empty is = subst (λ bytes. IsWord no_word bytes) (sym (no_bytes word bytes empty is)) no_word_is

pub still : (word : Word) (bytes : List ℕ) → (word.length == 0) ≡ true → IsWord word bytes → IsWord word []
still word bytes empty is = subst (λ bytes. IsWord word bytes) (no_bytes word bytes empty is) is

apart_behind : (part : LinePart) (bytes : List ℕ) → part ≢ Comment → part_behind part bytes ≢ Comment
apart_behind part [] apart = apart
apart_behind part (b ∷ bytes) apart = λ e. cc

-- no word and no comment is begun at a place, and digits follow
pub record Stands (parser : Parser) (line : ℕ) (part : LinePart) (word plain : Word) (r : Reading) (xs : List ℕ) (i e : ℕ) : Type 0 where
  pub low : i ≤ e
  pub inside : e < length xs
  pub empty : (word.length == 0) ≡ true
  pub apart : part ≢ Comment
  pub digits : list_all is_digit (run i e xs) ≡ true
  pub longer : (bytes : List ℕ) → IsWord no_word bytes → IsWord plain (bytes ++ run i e xs)
  pub so_far : ReadTo parser line part word r (take i xs)

behind_digits : (parser : Parser) (line : ℕ) (part : LinePart) (word plain : Word) (r : Reading) (xs : List ℕ) (i e : ℕ) → Stands parser line part word plain r xs i e
    → ReadTo parser line (part_behind part (run i e xs)) plain r (take e xs)
behind_digits parser line part word plain r xs i e at =
    read_on parser line part (part_behind part (run i e xs)) word plain r xs i e at.low at.so_far
    (λ holds. digits_held parser line part no_word plain (reading_from r (take i xs)) (run i e xs) at.digits at.apart at.longer (record {
      state = holds.state;
      same_line = holds.same_line;
      same_part = holds.same_part;
      same_word = as_no_word word (reading_from r (take i xs)).word at.empty holds.same_word;
    }))

kept : (parser : Parser) (line : ℕ) (part : LinePart) (word plain : Word) (r : Reading) (xs : List ℕ) (i e : ℕ) → Stands parser line part word plain r xs i e → IsWord word []
kept parser line part word plain r xs i e at = still word (reading_from r (take i xs)).word at.empty at.so_far.1.same_word

pub blank_step : (parser now : Parser) (line after : ℕ) (part : LinePart) (word plain : Word) (r : Reading) (xs : List ℕ) (i e : ℕ) → Stands parser line part word plain r xs i e
    → is_blank (get_or xs e 0) ≡ true → after ≡ line
    → ((s : State) (bytes : List ℕ) (place : ℕ) → ParserShows parser s → IsWord plain bytes → (word_end s bytes place line ≡ []) × ParserShows now (word_end_state s bytes place))
    → ReadTo now after Words word r (take (e + 1) xs)
blank_step parser now line after part word plain r xs i e at blank same ends =
    let held = behind_digits parser line part word plain r xs i e at in
    let behind : Reading = reading_from r (take e xs) in
    read_next now after Words word r xs e at.inside held.0
    (blank_taken parser now line after (part_behind part (run i e xs)) plain word behind (get_or xs e 0) (apart_behind part (run i e xs) at.apart) blank same
    (kept parser line part word plain r xs i e at) held.1 (ends behind.state behind.word behind.next held.1.state held.1.same_word))

pub blank_fault : (parser : Parser) (line : ℕ) (part : LinePart) (word plain : Word) (refusal : ReadRefusal) (r : Reading) (xs : List ℕ) (i e : ℕ) → Stands parser line part word plain r xs i e
    → is_blank (get_or xs e 0) ≡ true
    → ((s : State) (bytes : List ℕ) (place : ℕ) → ParserShows parser s → IsWord plain bytes → RefusedFirst refusal (word_end s bytes place line) ⊥)
    → RefusedFirst refusal (bytes_findings r xs) (BytesEndHeader r xs)
blank_fault parser line part word plain refusal r xs i e at blank ends =
    let held = behind_digits parser line part word plain r xs i e at in
    let behind : Reading = reading_from r (take e xs) in
    refused_at refusal r (take e xs) (get_or xs e 0) (drop (e + 1) xs) xs held.0 (split_at xs e at.inside)
    (blank_refused parser line (part_behind part (run i e xs)) plain refusal behind (get_or xs e 0) (apart_behind part (run i e xs) at.apart) blank held.1
    (ends behind.state behind.word behind.next held.1.state held.1.same_word))

pub feed_step : (parser now : Parser) (line after : ℕ) (part : LinePart) (word plain : Word) (r : Reading) (xs : List ℕ) (i e : ℕ) → Stands parser line part word plain r xs i e
    → get_or xs e 0 ≡ 10 → after ≡ suc line
    → ((s : State) (bytes : List ℕ) (place : ℕ) → ParserShows parser s → IsWord plain bytes → (line_end s bytes place line ≡ []) × ParserShows now (line_end_state s bytes place line))
    → ReadTo now after Start word r (take (e + 1) xs)
feed_step parser now line after part word plain r xs i e at feed same ends =
    let held = behind_digits parser line part word plain r xs i e at in
    let behind : Reading = reading_from r (take e xs) in
    read_next now after Start word r xs e at.inside held.0
    (feed_taken parser now line after (part_behind part (run i e xs)) plain word behind (get_or xs e 0) (apart_behind part (run i e xs) at.apart) feed same
    (kept parser line part word plain r xs i e at) held.1 (ends behind.state behind.word behind.next held.1.state held.1.same_word))

pub feed_fault : (parser : Parser) (line : ℕ) (part : LinePart) (word plain : Word) (refusal : ReadRefusal) (r : Reading) (xs : List ℕ) (i e : ℕ) → Stands parser line part word plain r xs i e
    → get_or xs e 0 ≡ 10
    → ((s : State) (bytes : List ℕ) (place : ℕ) → ParserShows parser s → IsWord plain bytes → RefusedFirst refusal (line_end s bytes place line) (EndsHeader (word_end_state s bytes place)))
    → RefusedFirst refusal (bytes_findings r xs) (BytesEndHeader r xs)
feed_fault parser line part word plain refusal r xs i e at feed ends =
    let held = behind_digits parser line part word plain r xs i e at in
    let behind : Reading = reading_from r (take e xs) in
    refused_at refusal r (take e xs) (get_or xs e 0) (drop (e + 1) xs) xs held.0 (split_at xs e at.inside)
    (feed_refused parser line (part_behind part (run i e xs)) plain refusal behind (get_or xs e 0) (apart_behind part (run i e xs) at.apart) feed held.1
    (ends behind.state behind.word behind.next held.1.state held.1.same_word))

pub line_before : (ended line most : ℕ) → line ≡ suc ended → suc ended < most → line < most
line_before ended line most same few = omega arith
