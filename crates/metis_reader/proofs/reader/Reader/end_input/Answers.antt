-- The end of the input ends a line that has begun.
use Rattle.std.proofs.Common.{◌≡◌, ◌<◌, ◌-◌, ◌^◌, ℕ, suc, List, [], refl, sym, ◌∙◌, ap, subst}
use Rattle.std.specs.Prelude.{Result, Ok, Err, MatchResult, OnOk}
use Rattle.metis_reader.specs.declared.fault.ReadRefusal.{ReadRefusal}
use Rattle.metis_reader.specs.declared.fault.ReadRefusal.TheVariants.{NoMemory, Fault}
use Rattle.metis_reader.specs.declared.line_part.LinePart.TheVariants.{Words}
use Rattle.metis_reader.specs.declared.parser.Parser.{Parser}
use Rattle.metis_reader.specs.Machine.{State}
use Rattle.metis_reader.specs.Reading.{Reading, line_end, line_end_state, word_end_state}
use Rattle.metis_reader.specs.Shown.{EndsHeader}
use Rattle.metis_reader.specs.Holding.{ParserShows, RefusedFirst, ByteEndsHeader}
use Rattle.metis_reader.specs.Ending.{last_line, end_state, line_count}
use Rattle.metis_reader.proofs.reader.Reader.end_input.Goals as goal

abbrev Answered : Result (Unit {0}) ReadRefusal → Parser → ℕ → Reading → Type 0
Answered result parser line r =
    MatchResult result (λ _. (last_line r ≡ []) × ParserShows parser (end_state r) × (line ≡ suc (line_count r))) (λ refusal. RefusedFirst refusal (last_line r) (ByteEndsHeader r 10))

at_words : (result : Result (Unit {0}) ReadRefusal) (parser : Parser) (old line : ℕ) (s : State) (word : List ℕ) (ended next : ℕ) → old ≡ suc ended → suc ended < 2 ^ 64 - 1
    → OnOk result (old < 2 ^ 64 - 1 → line ≡ suc old)
    → MatchResult result (λ _. (line_end s word next old ≡ []) × ParserShows parser (line_end_state s word next old)) (λ refusal. RefusedFirst refusal (line_end s word next old) (EndsHeader (word_end_state s word next)))
    → Answered result parser line (record { state = s; part = Words; word = word; ended = ended; next = next })
at_words (Ok x) parser old line s word ended next same few counts h = (
  ap (λ n. line_end s word next n) (sym same) ∙ h.0,
  subst (λ n. ParserShows parser (line_end_state s word next n)) same h.1,
  counts (subst (λ n. n < 2 ^ 64 - 1) (sym same) few) ∙ ap (λ n. suc n) same,
)
at_words (Err refusal) parser old line s word ended next same few counts h =
    by refusal (subst (λ n. RefusedFirst refusal (line_end s word next n) (EndsHeader (word_end_state s word next))) same h)
  where
    r : Reading
    r = record { state = s; part = Words; word = word; ended = ended; next = next }

    by : (refusal : ReadRefusal) → RefusedFirst refusal (last_line r) (EndsHeader (word_end_state s word next)) → RefusedFirst refusal (last_line r) (ByteEndsHeader r 10)
    by NoMemory h = (refl, λ e. cc, h)
    by (Fault f) h = h

pub returns-in-Words : goal.returns-in-Words
returns-in-Words c = λ r holds few.
    subst (λ part. Answered c.end_line.result c.end_line.new.self.parser c.end_line.new.self.line (record { state = r.state; part = part; word = r.word; ended = r.ended; next = r.next }))
    (sym c.in-Words.is ∙ holds.same_part)
    (at_words c.end_line.result c.end_line.new.self.parser c.args.self.now.line c.end_line.new.self.line r.state r.word r.ended r.next holds.same_line few c.end_line.ensures.line
    (c.end_line.ensures.exact r.state r.word r.next holds.state holds.same_word))
