use Rattle.std.proofs.Common.{ℕ, sym, ◌∙◌}
use Rattle.std.proofs.lemmas.Bool.{MatchBool-at_true}
use Rattle.metis_reader.specs.declared.line_part.LinePart.TheVariants.{Words}
use Rattle.metis_reader.proofs.RowWords.{word_ends, row_word}
use Rattle.metis_reader.proofs.reader.Reader.row_weight.Goals as goal

pub returns-clause-exact : goal.returns-clause-exact
returns-clause-exact c = λ r so_far few.
    let before = c.args.self.now in
    let i : ℕ = c.args.from in
    let e : ℕ = c.with_digits-end.result.1 in
    let next = c.end_row_word in
    row_word before.parser c.takes_weight.new.self next.new.self.parser before.line next.new.self.line Words next.result.0 c.args.word c.with_digits-end.result.0 r c.args.piece.now i e next.result.1
    (record {
      low = c.with_digits-end.ensures.within.0;
      inside = c.if-end-piece.false;
      empty = c.requires.empty;
      apart = λ e. cc;
      digits = c.with_digits-end.ensures.digits;
      longer = c.with_digits-end.ensures.longer;
      so_far = so_far;
    })
    (MatchBool-at_true _ _ c.if-not-ends_word.false c.ends_word.ensures) few
    (word_ends before.parser c.takes_weight.new.self before.line c.with_digits-end.result.0 (sym c.is_empty.ensures ∙ c.if-is_empty.false) (c.takes_weight.ensures.taken c.if-not-takes_weight.false))
    next.ensures.within.0 next.ensures.feed next.ensures.blank
