-- The piece is within the limit, or only its front is.
use Rattle.std.proofs.Common.{◌≡◌, ◌<◌, ◌≤◌, ◌+◌, ◌^◌, ℕ, length, take, arith, sym, subst, length-append}
use Rattle.std.proofs.lemmas.List.{length-take-le}
use Rattle.metis_reader.specs.Reading.{start, reading_from}
use Rattle.metis_reader.specs.Holding.{Holds}
use Rattle.metis_reader.proofs.Running.{reading_append}
use Rattle.metis_reader.proofs.Feeding.{few_lines, more_findings, refused_within, refused_whole, refused_beyond}
use Rattle.metis_reader.proofs.reader.Reader.take_within.Goals as goal

pub returns-in-Err-clause-exact : goal.returns-in-Err-clause-exact
returns-in-Err-clause-exact c = λ bytes still.
    refused_whole c.in-Err.refusal bytes c.args.piece.now c.args.self.now.left still.left c.if-piece-self.true still.none
    (c.in-Err.ensures.exact (reading_from start bytes) still.holds (few_lines bytes (length c.args.piece.now) c.args.self.now.left still.left c.if-piece-self.true))

pub returns-then-piece-self-clause-exact : goal.returns-then-piece-self-clause-exact
returns-then-piece-self-clause-exact c = λ bytes still.
    let piece = c.args.piece.now in
    let fits : length piece ≤ c.args.self.now.left = c.if-piece-self.true in
    let all : c.args.self.now.left + length bytes ≡ 2 ^ 33 = still.left in
    let step = c.in-Ok.ensures.exact (reading_from start bytes) still.holds (few_lines bytes (length piece) c.args.self.now.left still.left fits) in
    record {
      none = more_findings bytes piece still.none step.0;
      holds = subst (λ r. Holds c.take.new.self.parser c.take.new.self.line c.take.new.self.part c.take.new.self.word r) (sym (reading_append start bytes piece)) step.1;
      left = omega (arith, length-append bytes piece);
    }

pub returns-in-Ok-take-clause-exact : goal.returns-in-Ok-take-clause-exact
returns-in-Ok-take-clause-exact c = λ bytes still.
    let piece = c.args.piece.now in
    let left : ℕ = c.args.self.now.left in
    let long : left < length piece = c.if-piece-self.false in
    let count : length (take left piece) ≡ left = length-take-le left piece (omega arith) in
    let within : length (take left piece) ≤ left = omega arith in
    let step = c.in-Ok-take.ensures.exact (reading_from start bytes) still.holds (few_lines bytes (length (take left piece)) left still.left within) in
    refused_beyond c.refusal_at.result bytes piece left c.take-2.new.self.line still.left long still.none step.0 step.1.same_line c.refusal_at.ensures

pub returns-in-Err-take-clause-exact : goal.returns-in-Err-take-clause-exact
returns-in-Err-take-clause-exact c = λ bytes still.
    let piece = c.args.piece.now in
    let left : ℕ = c.args.self.now.left in
    let long : left < length piece = c.if-piece-self.false in
    let count : length (take left piece) ≡ left = length-take-le left piece (omega arith) in
    let within : length (take left piece) ≤ left = omega arith in
    refused_within c.in-Err-take.refusal bytes piece left still.left still.none
    (c.in-Err-take.ensures.exact (reading_from start bytes) still.holds (few_lines bytes (length (take left piece)) left still.left within))
