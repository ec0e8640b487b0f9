use Rattle.std.proofs.Common.{◌++◌, ◌∷◌, [], ℕ, List, ◌∙◌, ap}
use Rattle.std.specs.Prelude.{codes}
use Rattle.std.proofs.lemmas.Result.{err_from_is_err_and}
use Rattle.answer_pages.specs.Text.{spaced}
use Rattle.answer_pages.proofs.Putting.{split_then, puts_as, puts_after, puts_failed, line_word, three_parts}
use Rattle.answer_pages.specs.Listings.{above}
use Rattle.answer_pages.proofs.pages.put_worded_side.Goals as goal

pub returns-in_err-put : goal.returns-in_err-put
returns-in_err-put g c =
    let text = spaced c.args.side.now.members in
    puts_as (line_word c.args.page.now (codes "side") text (10 ∷ []))
    (puts_failed (text ++ 10 ∷ []) c.put.new.self (err_from_is_err_and c.from_residual.result c.from_residual.ensures.1).1 c.in_err-put.ensures)

pub returns-in_err-put_above : goal.returns-in_err-put_above
returns-in_err-put_above g c =
    let text = spaced (above 0 c.args.side.now.members) in
    puts_as (three_parts c.args.page.now (codes "side") text (10 ∷ [])
    ∙ ap (λ (l : List ℕ). c.args.page.now ++ (codes "side" ++ spaced l ++ 10 ∷ [])) c.put_above.ensures.all)
    (puts_failed (10 ∷ []) c.put_above.new.page (err_from_is_err_and c.from_residual-in_err-put_above.result c.from_residual-in_err-put_above.ensures.1).1
    (puts_after text c.in_ok-put.ensures.ok c.in_ok-put.ensures.cause.ok c.in_err-put_above.ensures.puts))

pub returns : goal.returns
returns g c =
    let text = spaced (above 0 c.args.side.now.members) in
    puts_as (three_parts c.args.page.now (codes "side") text (10 ∷ [])
    ∙ ap (λ (l : List ℕ). c.args.page.now ++ (codes "side" ++ spaced l ++ 10 ∷ [])) c.put_above.ensures.all)
    (puts_after (10 ∷ []) (split_then text c.in_ok-put.ensures.ok c.in_ok-put_above.ensures.puts.ok)
    (c.in_ok-put_above.ensures.puts.cause.ok ∙ c.in_ok-put.ensures.cause.ok) c.put-2.ensures)
