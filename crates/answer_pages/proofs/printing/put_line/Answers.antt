use Rattle.std.proofs.Common.{◌++◌, ◌∷◌, [], ◌∙◌}
use Rattle.std.proofs.lemmas.Result.{err_from_is_err_and}
use Rattle.std.specs.List.{flat_map}
use Rattle.answer_pages.proofs.Putting.{split_then, puts_as, puts_after, puts_failed, line_word, three_parts}
use Rattle.answer_pages.proofs.printing.put_line.Goals as goal

pub returns-in_err-put : goal.returns-in_err-put
returns-in_err-put g c =
    let word = c.args.word.now in
    let text = flat_map (λ (n : g.row.I.Denot). 32 ∷ g.I.Integer.text n) c.args.numbers.now in
    puts_as (line_word c.args.page.now word text (10 ∷ []))
    (puts_failed (text ++ 10 ∷ []) c.put.new.self (err_from_is_err_and c.from_residual.result c.from_residual.ensures.1).1 c.in_err-put.ensures)

pub returns-in_err-put_numbers : goal.returns-in_err-put_numbers
returns-in_err-put_numbers g c =
    let text = flat_map (λ (n : g.row.I.Denot). 32 ∷ g.I.Integer.text n) c.args.numbers.now in
    puts_as (three_parts c.args.page.now c.args.word.now text (10 ∷ []))
    (puts_failed (10 ∷ []) c.put_numbers.new.self (err_from_is_err_and c.from_residual-in_err-put_numbers.result c.from_residual-in_err-put_numbers.ensures.1).1
    (puts_after text c.in_ok-put.ensures.ok c.in_ok-put.ensures.cause.ok c.in_err-put_numbers.ensures))

pub returns : goal.returns
returns g c =
    let text = flat_map (λ (n : g.row.I.Denot). 32 ∷ g.I.Integer.text n) c.args.numbers.now in
    puts_as (three_parts c.args.page.now c.args.word.now text (10 ∷ []))
    (puts_after (10 ∷ []) (split_then text c.in_ok-put.ensures.ok c.in_ok-put_numbers.ensures.ok)
    (c.in_ok-put_numbers.ensures.cause.ok ∙ c.in_ok-put.ensures.cause.ok) c.put-2.ensures)
