-- What a reader holds after a word of digits and the blank or the line feed that ends it.
use Rattle.std.proofs.Common.{◌≡◌, ◌≢◌, ◌<◌, ◌≤◌, ◌+◌, ℕ, suc, Bool, true, false, List, [], ◌∷◌, ◌++◌, length, take, drop, get_or, min, refl, sym, ◌∙◌, ap, subst, arith}
use Rattle.std.specs.Prelude.{◌==◌}
use Rattle.std.proofs.lemmas.Bool.Decides.{nat_tests}
use Rattle.std.proofs.lemmas.Grind.{common_steps}
use Rattle.cut_definitions.proofs.ListLaws.{take_next}
use Rattle.metis_reader.specs.declared.fault.ReadRefusal.{ReadRefusal}
use Rattle.metis_reader.specs.declared.fault.ReadRefusal.TheVariants.{NoMemory, Fault}
use Rattle.metis_reader.specs.declared.line_part.LinePart.{LinePart}
use Rattle.metis_reader.specs.declared.line_part.LinePart.TheVariants.{Start, Words, Comment}
use Rattle.metis_reader.specs.declared.parser.Parser.{Parser}
use Rattle.metis_reader.specs.declared.word.Word.{Word}
use Rattle.metis_reader.specs.Text.{is_line_feed, is_blank}
use Rattle.metis_reader.specs.Words.{IsWord}
use Rattle.metis_reader.specs.Machine.{State}
use Rattle.metis_reader.specs.Shown.{EndsHeader}
use Rattle.metis_reader.specs.Reading.{Reading, byte_findings, byte_findings_by, after_byte, after_byte_by, bytes_findings, reading_from, word_end, word_end_state, line_end, line_end_state}
use Rattle.metis_reader.specs.Holding.{Holds, ParserShows, RefusedFirst, ByteEndsHeader}
use Rattle.metis_reader.proofs.Running.{reading_push, findings_push, ended_bound}
use Rattle.metis_reader.proofs.Runs.{ReadTo}

-- one byte more

pub split_at : (xs : List ℕ) (i : ℕ) → i < length xs → xs ≡ take i xs ++ get_or xs i 0 ∷ drop (i + 1) xs
split_at xs i h = grind (arith, common_steps)

pub few_ended : (r : Reading) (xs : List ℕ) (i most : ℕ) → i < length xs → suc r.ended + length xs < most → suc (reading_from r (take i xs)).ended < most
few_ended r xs i most h few =
    let bound : (reading_from r (take i xs)).ended ≤ r.ended + length (take i xs) = ended_bound r (take i xs) in
    let len : length (take i xs) ≤ length xs = grind (arith, common_steps) in
    omega arith

-- what was read up to a place, and then the byte at it
pub read_next : (parser : Parser) (line : ℕ) (part : LinePart) (word : Word) (r : Reading) (xs : List ℕ) (e : ℕ) → e < length xs → bytes_findings r (take e xs) ≡ []
    → (byte_findings (reading_from r (take e xs)) (get_or xs e 0) ≡ []) × Holds parser line part word (after_byte (reading_from r (take e xs)) (get_or xs e 0))
    → ReadTo parser line part word r (take (e + 1) xs)
read_next parser line part word r xs e inside none step = (
  ap (λ ys. bytes_findings r ys) (take_next xs e inside) ∙ findings_push r (take e xs) (get_or xs e 0) none step.0,
  subst (λ s. Holds parser line part word s) (sym (ap (λ ys. reading_from r ys) (take_next xs e inside) ∙ reading_push r (take e xs) (get_or xs e 0))) step.1,
)

-- a word without bytes

pub no_bytes : (word : Word) (bytes : List ℕ) → (word.length == 0) ≡ true → IsWord word bytes → bytes ≡ []
no_bytes word [] none is = refl
no_bytes word (b ∷ bytes) none is =
    let len : word.length ≡ min (length (b ∷ bytes)) 255 = is.length in
    let zero : word.length ≡ 0 = grind (arith, nat_tests) in
    absurd (omega arith)

-- a blank

pub not_feed : (b : ℕ) → is_blank b ≡ true → is_line_feed b ≡ false
not_feed b h = grind (arith, nat_tests)

blank_by : (part : LinePart) (percent : Bool) (parser : Parser) (line old : ℕ) (empty : Word) (s : State) (bytes : List ℕ) (ended next b : ℕ) → part ≢ Comment → line ≡ suc ended → old ≡ suc ended
    → IsWord empty [] → (word_end s bytes next old ≡ []) × ParserShows parser (word_end_state s bytes next)
    → (byte_findings_by false true (record { state = s; part = part; word = bytes; ended = ended; next = next }) ≡ [])
    × Holds parser line Words empty (after_byte_by false true percent (record { state = s; part = part; word = bytes; ended = ended; next = next }) b)
blank_by Start percent parser line old empty s bytes ended next b apart same was is h =
    (ap (λ n. word_end s bytes next n) (sym was) ∙ h.0, record { state = h.1; same_line = same; same_part = refl; same_word = is })
blank_by Words percent parser line old empty s bytes ended next b apart same was is h =
    (ap (λ n. word_end s bytes next n) (sym was) ∙ h.0, record { state = h.1; same_line = same; same_part = refl; same_word = is })
blank_by Comment percent parser line old empty s bytes ended next b apart same was is h = absurd (apart refl)

pub blank_taken : (parser now : Parser) (line after : ℕ) (part : LinePart) (word empty : Word) (r : Reading) (b : ℕ) → part ≢ Comment → is_blank b ≡ true → after ≡ line
    → IsWord empty [] → Holds parser line part word r → (word_end r.state r.word r.next line ≡ []) × ParserShows now (word_end_state r.state r.word r.next)
    → (byte_findings r b ≡ []) × Holds now after Words empty (after_byte r b)
blank_taken parser now line after part word empty r b apart blank same is holds h =
    rw (not_feed b blank, blank)
    (blank_by r.part (b == 37) now after line empty r.state r.word r.ended r.next b (λ e. apart (holds.same_part ∙ e)) (same ∙ holds.same_line) holds.same_line is h)

refused_blank_by : (part : LinePart) (refusal : ReadRefusal) (old : ℕ) (s : State) (bytes : List ℕ) (ended next : ℕ) (There : Type 0) → part ≢ Comment → old ≡ suc ended
    → RefusedFirst refusal (word_end s bytes next old) ⊥
    → RefusedFirst refusal (byte_findings_by false true (record { state = s; part = part; word = bytes; ended = ended; next = next })) There
refused_blank_by Comment refusal old s bytes ended next There apart was h = absurd (apart refl)
refused_blank_by Start NoMemory old s bytes ended next There apart was h = absurd h
refused_blank_by Words NoMemory old s bytes ended next There apart was h = absurd h
refused_blank_by Start (Fault f) old s bytes ended next There apart was h = subst (λ n. RefusedFirst (Fault f) (word_end s bytes next n) There) was h
refused_blank_by Words (Fault f) old s bytes ended next There apart was h = subst (λ n. RefusedFirst (Fault f) (word_end s bytes next n) There) was h

pub blank_refused : (parser : Parser) (line : ℕ) (part : LinePart) (word : Word) (refusal : ReadRefusal) (r : Reading) (b : ℕ) → part ≢ Comment → is_blank b ≡ true
    → Holds parser line part word r → RefusedFirst refusal (word_end r.state r.word r.next line) ⊥ → RefusedFirst refusal (byte_findings r b) (ByteEndsHeader r b)
blank_refused parser line part word refusal r b apart blank holds h =
    rw (not_feed b blank, blank)
    (refused_blank_by r.part refusal line r.state r.word r.ended r.next (ByteEndsHeader r b) (λ e. apart (holds.same_part ∙ e)) holds.same_line h)

-- a line feed

feed_by : (part : LinePart) (parser : Parser) (line old : ℕ) (empty : Word) (s : State) (bytes : List ℕ) (ended next : ℕ) → part ≢ Comment → line ≡ suc old → old ≡ suc ended
    → IsWord empty [] → (line_end s bytes next old ≡ []) × ParserShows parser (line_end_state s bytes next old)
    → (byte_findings (record { state = s; part = part; word = bytes; ended = ended; next = next }) 10 ≡ [])
    × Holds parser line Start empty (after_byte (record { state = s; part = part; word = bytes; ended = ended; next = next }) 10)
feed_by Start parser line old empty s bytes ended next apart same was is h = (
  ap (λ n. line_end s bytes next n) (sym was) ∙ h.0,
  record { state = subst (λ n. ParserShows parser (line_end_state s bytes next n)) was h.1; same_line = same ∙ ap (λ n. suc n) was; same_part = refl; same_word = is },
)
feed_by Words parser line old empty s bytes ended next apart same was is h = (
  ap (λ n. line_end s bytes next n) (sym was) ∙ h.0,
  record { state = subst (λ n. ParserShows parser (line_end_state s bytes next n)) was h.1; same_line = same ∙ ap (λ n. suc n) was; same_part = refl; same_word = is },
)
feed_by Comment parser line old empty s bytes ended next apart same was is h = absurd (apart refl)

pub feed_taken : (parser now : Parser) (line after : ℕ) (part : LinePart) (word empty : Word) (r : Reading) (b : ℕ) → part ≢ Comment → b ≡ 10 → after ≡ suc line → IsWord empty []
    → Holds parser line part word r → (line_end r.state r.word r.next line ≡ []) × ParserShows now (line_end_state r.state r.word r.next line)
    → (byte_findings r b ≡ []) × Holds now after Start empty (after_byte r b)
feed_taken parser now line after part word empty r b apart feed same is holds h =
    subst (λ b. (byte_findings r b ≡ []) × Holds now after Start empty (after_byte r b)) (sym feed)
    (feed_by r.part now after line empty r.state r.word r.ended r.next (λ e. apart (holds.same_part ∙ e)) same holds.same_line is h)

refused_feed_by : (part : LinePart) (refusal : ReadRefusal) (old : ℕ) (s : State) (bytes : List ℕ) (ended next : ℕ) → part ≢ Comment → old ≡ suc ended
    → RefusedFirst refusal (line_end s bytes next old) (EndsHeader (word_end_state s bytes next))
    → RefusedFirst refusal (byte_findings (record { state = s; part = part; word = bytes; ended = ended; next = next }) 10) (ByteEndsHeader (record { state = s; part = part; word = bytes; ended = ended; next = next }) 10)
refused_feed_by Comment refusal old s bytes ended next apart was h = absurd (apart refl)
refused_feed_by Start NoMemory old s bytes ended next apart was h = (refl, apart, h)
refused_feed_by Words NoMemory old s bytes ended next apart was h = (refl, apart, h)
refused_feed_by Start (Fault f) old s bytes ended next apart was h = subst (λ n. RefusedFirst (Fault f) (line_end s bytes next n) ⊥) was h
refused_feed_by Words (Fault f) old s bytes ended next apart was h = subst (λ n. RefusedFirst (Fault f) (line_end s bytes next n) ⊥) was h

pub feed_refused : (parser : Parser) (line : ℕ) (part : LinePart) (word : Word) (refusal : ReadRefusal) (r : Reading) (b : ℕ) → part ≢ Comment → b ≡ 10 → Holds parser line part word r
    → RefusedFirst refusal (line_end r.state r.word r.next line) (EndsHeader (word_end_state r.state r.word r.next)) → RefusedFirst refusal (byte_findings r b) (ByteEndsHeader r b)
feed_refused parser line part word refusal r b apart feed holds h =
    subst (λ b. RefusedFirst refusal (byte_findings r b) (ByteEndsHeader r b)) (sym feed)
    (refused_feed_by r.part refusal line r.state r.word r.ended r.next (λ e. apart (holds.same_part ∙ e)) holds.same_line h)
