use Rattle.std.proofs.Common.{◌<◌, ◌≤◌, ◌+◌, ℕ, length, sym, ◌∙◌, arith}
use Rattle.std.proofs.lemmas.Bool.{MatchBool-at_true}
use Rattle.metis_reader.proofs.RowWords.{stands, none_ends, word_ends, blank_word, blank_of, row_word}
use Rattle.metis_reader.proofs.reader.Reader.weighted_rows.Goals as goal

pub loop-place-preserved-then-is_empty : goal.loop-place-preserved-then-is_empty
loop-place-preserved-then-is_empty c =
    let before = c.loop-place.self in
    let i : ℕ = c.loop-place.place in
    let e : ℕ = c.leading-end.result.1 in
    let near : e < i + 8 = omega (arith, c.if-end-place.false) in
    let inside : e < length c.args.piece.now = omega (arith, c.loop-place.invariant.within, c.loop-place-test.true) in
    let next = c.end_row_word-next in
    record {
      low = omega (arith, c.loop-place.invariant.low, c.leading-end.ensures.within.0, next.ensures.within.0);
      within = next.ensures.within.1;
      weighted = next.ensures.same_weights ∙ c.loop-place.invariant.weighted;
      no_comment = next.ensures.no_comment;
      same_refusal = next.ensures.same_refusal ∙ c.loop-place.invariant.same_refusal;
      exact = λ r holds few.
          row_word before.parser before.parser next.new.self.parser before.line next.new.self.line c.loop-place.part next.result.0 c.args.word c.leading-end.result.0 r c.args.piece.now i e next.result.1
          (stands before.parser before.line c.loop-place.part c.args.word c.leading-end.result.0 r c.args.piece.now i e c.leading-end.ensures.within.0 inside c.requires.empty c.loop-place.invariant.no_comment (c.leading-end.ensures.digits near) (c.leading-end.ensures.word near) (c.loop-place.invariant.exact r holds few))
          (MatchBool-at_true _ _ c.if-not-ends_word.false c.ends_word.ensures) few
          (none_ends before.parser before.line c.leading-end.result.0 (sym c.is_empty.ensures ∙ c.if-is_empty.true)) next.ensures.within.0 next.ensures.feed next.ensures.blank;
    }

pub loop-place-preserved : goal.loop-place-preserved
loop-place-preserved c =
    let before = c.loop-place.self in
    let i : ℕ = c.loop-place.place in
    let e : ℕ = c.leading-end.result.1 in
    let near : e < i + 8 = omega (arith, c.if-end-place.false) in
    let inside : e < length c.args.piece.now = omega (arith, c.loop-place.invariant.within, c.loop-place-test.true) in
    let next = c.row_weight-next in
    let behind : ℕ = c.behind_blanks.result in
    let more : e + 1 ≤ behind = c.behind_blanks.ensures.within.0 in
    record {
      low = omega (arith, more, c.loop-place.invariant.low, c.leading-end.ensures.within.0, next.ensures.within.0);
      within = next.ensures.within.1;
      weighted = next.ensures.weighted;
      no_comment = next.ensures.no_comment;
      same_refusal = next.ensures.same_refusal ∙ c.loop-place.invariant.same_refusal;
      exact = λ r holds few.
          next.ensures.exact r (blank_word before.parser c.takes_weighted_neighbour.new.self before.line c.loop-place.part c.args.word c.leading-end.result.0 r c.args.piece.now i e behind
          (stands before.parser before.line c.loop-place.part c.args.word c.leading-end.result.0 r c.args.piece.now i e c.leading-end.ensures.within.0 inside c.requires.empty c.loop-place.invariant.no_comment (c.leading-end.ensures.digits near) (c.leading-end.ensures.word near) (c.loop-place.invariant.exact r holds few))
          (blank_of _ (MatchBool-at_true _ _ c.if-not-ends_word.false c.ends_word.ensures) c.if-piece-end-eq-LINE_FEED.false)
          (word_ends before.parser c.takes_weighted_neighbour.new.self before.line c.leading-end.result.0 (sym c.is_empty.ensures ∙ c.if-is_empty.false) (c.takes_weighted_neighbour.ensures.taken c.if-not-takes_weighted_neighbour.false))
          (omega (arith, more)) c.behind_blanks.ensures.blanks) few;
    }
