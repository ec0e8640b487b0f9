use Rattle.std.proofs.Common.{List, ℕ, ◌++◌, ◌∷◌, [], ◌∙◌, ap}
use Rattle.std.proofs.lemmas.Result.{err_from_is_err_and}
use Rattle.std.specs.Prelude.{codes}
use Rattle.answer_pages.specs.Text.{spaced}
use Rattle.answer_pages.proofs.Between.{numbers_text}
use Rattle.answer_pages.proofs.Putting.{split_then, split_as, puts_as, puts_after, puts_failed, line_word, three_parts}
use Rattle.answer_pages.proofs.pieces.Crew.put_long_cycle.Goals as goal

pub returns-in_err-put : goal.returns-in_err-put
returns-in_err-put g c =
    let text = spaced c.args.members.now in
    puts_as (line_word c.args.page.now (codes "cycle") text (10 ∷ []))
    (puts_failed (text ++ 10 ∷ []) c.put.new.self (err_from_is_err_and c.from_residual.result c.from_residual.ensures.1).1 c.in_err-put.ensures)

pub returns-in_err-put_run : goal.returns-in_err-put_run
returns-in_err-put_run g c =
    let text = spaced c.args.members.now in
    puts_as (three_parts c.args.page.now (codes "cycle") text (10 ∷ []))
    (puts_failed (10 ∷ []) c.put_run.new.page (err_from_is_err_and c.from_residual-in_err-put_run.result c.from_residual-in_err-put_run.ensures.1).1
    (puts_after text c.in_ok-put.ensures.ok c.in_ok-put.ensures.cause.ok (puts_as (ap (λ (l : List ℕ). c.put.new.self ++ l) (numbers_text c.args.members.now)) c.in_err-put_run.ensures)))

pub returns : goal.returns
returns g c =
    let text = spaced c.args.members.now in
    puts_as (three_parts c.args.page.now (codes "cycle") text (10 ∷ []))
    (puts_after (10 ∷ []) (split_then text c.in_ok-put.ensures.ok (split_as (ap (λ (l : List ℕ). c.put.new.self ++ l) (numbers_text c.args.members.now)) c.in_ok-put_run.ensures.ok))
    (c.in_ok-put_run.ensures.cause.ok ∙ c.in_ok-put.ensures.cause.ok) c.put-2.ensures)
