use Rattle.std.proofs.Common.{◌∷◌, [], append_assoc}
use Rattle.std.proofs.lemmas.Result.{err_from_is_err_and}
use Rattle.answer_pages.specs.Text.{spaced}
use Rattle.answer_pages.proofs.Putting.{puts_as, puts_after, puts_failed}
use Rattle.answer_pages.proofs.growth_pages.put_entry.Goals as goal

pub returns-in_err-put : goal.returns-in_err-put
returns-in_err-put g c =
    let text = spaced (c.args.number ∷ []) in
    puts_as (append_assoc c.args.page.now c.args.word.now text)
    (puts_failed text c.put.new.self (err_from_is_err_and c.from_residual.result c.from_residual.ensures.1).1 c.in_err-put.ensures)

pub returns : goal.returns
returns g c =
    let text = spaced (c.args.number ∷ []) in
    puts_as (append_assoc c.args.page.now c.args.word.now text) (puts_after text c.in_ok-put.ensures.ok c.in_ok-put.ensures.cause.ok c.put_numbers.ensures)
