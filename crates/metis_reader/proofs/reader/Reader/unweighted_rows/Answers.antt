use Rattle.std.proofs.Common.{◌<◌, ◌+◌, ℕ, length, ◌∙◌, arith}
use Rattle.std.proofs.lemmas.Bool.{MatchBool-at_true}
use Rattle.metis_reader.proofs.RowWords.{stands, row_word}
use Rattle.metis_reader.proofs.reader.Reader.unweighted_rows.Goals as goal

pub loop-place-preserved : goal.loop-place-preserved
loop-place-preserved c =
    let before = c.loop-place.self in
    let i : ℕ = c.loop-place.place in
    let e : ℕ = c.leading-end.result.1 in
    let near : e < i + 8 = omega (arith, c.if-end-place.false) in
    let inside : e < length c.args.piece.now = omega (arith, c.loop-place.invariant.within, c.loop-place-test.true) in
    let next = c.end_row_word-next in
    record {
      low = omega (arith, c.loop-place.invariant.low, c.leading-end.ensures.within.0, next.ensures.within.0);
      within = next.ensures.within.1;
      unweighted = next.ensures.same_weights ∙ c.takes_neighbour.ensures.unweighted;
      no_comment = next.ensures.no_comment;
      same_refusal = next.ensures.same_refusal ∙ c.loop-place.invariant.same_refusal;
      exact = λ r holds few.
          row_word before.parser c.takes_neighbour.new.self next.new.self.parser before.line next.new.self.line c.loop-place.part next.result.0 c.args.word c.leading-end.result.0 r c.args.piece.now i e next.result.1
          (stands before.parser before.line c.loop-place.part c.args.word c.leading-end.result.0 r c.args.piece.now i e c.leading-end.ensures.within.0 inside c.requires.empty c.loop-place.invariant.no_comment (c.leading-end.ensures.digits near) (c.leading-end.ensures.word near) (c.loop-place.invariant.exact r holds few))
          (MatchBool-at_true _ _ c.if-not-ends_word.false c.ends_word.ensures) few
          (λ s bytes place. c.takes_neighbour.ensures.taken c.if-not-takes_neighbour.false s bytes place before.line) next.ensures.within.0 next.ensures.feed next.ensures.blank;
    }
