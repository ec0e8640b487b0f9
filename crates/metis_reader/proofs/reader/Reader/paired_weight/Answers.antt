use Rattle.std.proofs.Common.{◌<◌, ◌≤◌, ◌+◌, ℕ, length, arith}
use Rattle.std.proofs.lemmas.Bool.{MatchBool-at_true}
use Rattle.metis_reader.specs.declared.line_part.LinePart.TheVariants.{Words}
use Rattle.metis_reader.proofs.RowWords.{word_ends, row_word, has_bytes, counted_word}
use Rattle.metis_reader.proofs.reader.Reader.paired_weight.Goals as goal

pub returns-clause-exact : goal.returns-clause-exact
returns-clause-exact c = λ r so_far few.
    let before = c.args.self.now in
    let i : ℕ = c.args.from in
    let k : ℕ = c.args.count in
    let some : 1 ≤ k = omega (arith, c.if-count-eq0.false) in
    let short : k < 8 = omega (arith, c.if-count-ge8.false) in
    let inside : i + k < length c.args.piece.now = omega (arith, c.requires.inside, short) in
    let next = c.end_row_word in
    row_word before.parser c.takes_weight.new.self next.new.self.parser before.line next.new.self.line Words next.result.0 c.args.word c.of_digits-weight.result r c.args.piece.now i (i + k) next.result.1
    (counted_word before.parser before.line Words c.args.word c.of_digits-weight.result r c.args.piece.now i k inside c.requires.empty (λ e. cc) (c.requires.digits short) c.of_digits-weight.ensures.word so_far)
    (MatchBool-at_true _ _ c.if-not-ends_word.false c.ends_word.ensures) few
    (word_ends before.parser c.takes_weight.new.self before.line c.of_digits-weight.result (has_bytes _ k c.of_digits-weight.ensures.length some) (c.takes_weight.ensures.taken c.if-not-takes_weight.false))
    next.ensures.within.0 next.ensures.feed next.ensures.blank
