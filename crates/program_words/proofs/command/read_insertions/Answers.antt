use Rattle.std.proofs.Common.{◌≡◌, ◌+◌, ◌*◌, ◌∙◌, ap, arith, sym}
use Rattle.program_words.specs.Words.{after_all, before_all, insertions_of}
use Rattle.program_words.proofs.Triples.{none_before, one_more, some_left, texts_from}
use Rattle.program_words.proofs.command.read_insertions.Goals as goal

pub triples-init : goal.triples-init
triples-init c =
    sym (none_before (insertions_of (texts_from c.args.values.now 0))) ∙ ap (λ done. after_all done (insertions_of (texts_from c.args.values.now 0))) (sym c.new-insertions.ensures)

pub triples-preserved : goal.triples-preserved
triples-preserved c =
    let values = c.args.values.now in
    let next : 3 * c.triples.i + 3 ≡ 3 * (c.triples.i + 1) = omega arith in
    c.triples.invariant ∙ ap (after_all c.triples.insertions) (c.insertion_at.ensures ∙ ap (λ o. before_all o (insertions_of (texts_from values (3 * c.triples.i + 3)))) c.in-Some.is)
    ∙ one_more c.triples.insertions c.in-Some.insertion (insertions_of (texts_from values (3 * c.triples.i + 3)))
    ∙ (λ j. after_all (sym c.in_ok-push-in-Some.ensures j) (insertions_of (texts_from values (next j))))

pub returns-else-count-values : goal.returns-else-count-values
returns-else-count-values c =
    some_left c.args.values.now c.triples.insertions (3 * c.triples.i) (omega (arith, c.if-count-values.false, c.triples-test.false, c.triples.auto.i-end))
    (omega (arith, c.triples-test.false, c.triples.auto.i-end)) c.triples.invariant
