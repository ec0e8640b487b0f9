-- The bytes up to a place are read, then a run of a word's bytes, then one byte more, then plain words.
use Rattle.std.proofs.Common.{◌<◌, ◌+◌, ◌-◌, ◌^◌, ℕ, length, List, take, drop, get_or, ◌∙◌}
use Rattle.metis_reader.specs.Reading.{reading_from}
use Rattle.metis_reader.proofs.Running.{refused_at}
use Rattle.metis_reader.proofs.Runs.{read_on}
use Rattle.metis_reader.proofs.PlainWords.{split_at, few_ended, read_next}
use Rattle.metis_reader.proofs.reader.Reader.take.Goals as goal

pub loop-i-preserved-then-end-piece : goal.loop-i-preserved-then-end-piece
loop-i-preserved-then-end-piece c = record {
  within = c.lengthened-now.ensures.within.1;
  same_refusal = c.loop-i.invariant.same_refusal;
  exact = λ r holds few.
      read_on c.loop-i.self.parser c.loop-i.self.line c.loop-i.part c.lengthened-now.result.0 c.loop-i.word c.lengthened-now.result.1 r c.args.piece.now c.loop-i.i c.lengthened-now.result.2 c.lengthened-now.ensures.within.0
      (c.loop-i.invariant.exact r holds few) (c.lengthened-now.ensures.holds c.loop-i.self.parser c.loop-i.self.line (reading_from r (take c.loop-i.i c.args.piece.now)));
}

pub returns-in-Err-clause-exact : goal.returns-in-Err-clause-exact
returns-in-Err-clause-exact c = λ r holds few.
    let xs : List ℕ = c.args.piece.now in
    let e : ℕ = c.lengthened-now.result.2 in
    let inside : e < length xs = c.if-end-piece.false in
    let so_far = read_on c.loop-i.self.parser c.loop-i.self.line c.loop-i.part c.lengthened-now.result.0 c.loop-i.word c.lengthened-now.result.1 r xs c.loop-i.i e c.lengthened-now.ensures.within.0
    (c.loop-i.invariant.exact r holds few) (c.lengthened-now.ensures.holds c.loop-i.self.parser c.loop-i.self.line (reading_from r (take c.loop-i.i xs))) in
    refused_at c.in-Err.refusal r (take e xs) (get_or xs e 0) (drop (e + 1) xs) xs so_far.0 (split_at xs e inside)
    (c.in-Err.ensures.exact (reading_from r (take e xs)) so_far.1 (few_ended r xs e (2 ^ 64 - 1) inside few))

pub loop-i-preserved : goal.loop-i-preserved
loop-i-preserved c = record {
  within = c.in-Ok-plain_words.ensures.within.1;
  same_refusal = c.plain_words.ensures.same_refusal ∙ c.byte.ensures.same_refusal ∙ c.loop-i.invariant.same_refusal;
  exact = λ r holds few.
      let xs : List ℕ = c.args.piece.now in
      let e : ℕ = c.lengthened-now.result.2 in
      let inside : e < length xs = c.if-end-piece.false in
      let so_far = read_on c.loop-i.self.parser c.loop-i.self.line c.loop-i.part c.lengthened-now.result.0 c.loop-i.word c.lengthened-now.result.1 r xs c.loop-i.i e c.lengthened-now.ensures.within.0
      (c.loop-i.invariant.exact r holds few) (c.lengthened-now.ensures.holds c.loop-i.self.parser c.loop-i.self.line (reading_from r (take c.loop-i.i xs))) in
      let step = c.in-Ok.ensures.exact (reading_from r (take e xs)) so_far.1 (few_ended r xs e (2 ^ 64 - 1) inside few) in
      c.in-Ok-plain_words.ensures.exact r (read_next c.byte.new.self.parser c.byte.new.self.line c.in-Ok.next.0 c.in-Ok.next.1 r xs e inside so_far.0 step) few;
}

pub returns-in-Err-plain_words-clause-exact : goal.returns-in-Err-plain_words-clause-exact
returns-in-Err-plain_words-clause-exact c = λ r holds few.
    let xs : List ℕ = c.args.piece.now in
    let e : ℕ = c.lengthened-now.result.2 in
    let inside : e < length xs = c.if-end-piece.false in
    let so_far = read_on c.loop-i.self.parser c.loop-i.self.line c.loop-i.part c.lengthened-now.result.0 c.loop-i.word c.lengthened-now.result.1 r xs c.loop-i.i e c.lengthened-now.ensures.within.0
    (c.loop-i.invariant.exact r holds few) (c.lengthened-now.ensures.holds c.loop-i.self.parser c.loop-i.self.line (reading_from r (take c.loop-i.i xs))) in
    let step = c.in-Ok.ensures.exact (reading_from r (take e xs)) so_far.1 (few_ended r xs e (2 ^ 64 - 1) inside few) in
    c.in-Err-plain_words.ensures.exact r (read_next c.byte.new.self.parser c.byte.new.self.line c.in-Ok.next.0 c.in-Ok.next.1 r xs e inside so_far.0 step) few
