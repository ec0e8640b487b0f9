use Rattle.std.proofs.Common.{◌++◌, ◌∷◌, [], ◌∙◌}
use Rattle.std.specs.Prelude.{codes}
use Rattle.std.proofs.lemmas.Result.{err_from_is_err_and}
use Rattle.answer_pages.specs.Text.{spaced}
use Rattle.answer_pages.proofs.Putting.{split_then, puts_as, puts_after, puts_failed}
use Rattle.answer_pages.proofs.Growths.{entry_first, entry_second, entry_parts}
use Rattle.answer_pages.proofs.growth_pages.put_step.Goals as goal

pub returns-in_err-put_entry : goal.returns-in_err-put_entry
returns-in_err-put_entry g c =
    let page = c.args.page.now in
    let number = spaced (c.args.number ∷ []) in
    let value = spaced (c.args.step.value ∷ []) in
    let count = spaced (c.args.step.count ∷ []) in
    let back = c.from_residual in
    puts_as (entry_first page (codes "step") number (codes " value") value (codes " count") count (10 ∷ []))
    (puts_failed ((codes " value" ++ value) ++ (codes " count" ++ count) ++ 10 ∷ []) c.put_entry.new.page (err_from_is_err_and back.result back.ensures.1).1 c.in_err-put_entry.ensures)

pub returns-in_err-put_entry-2 : goal.returns-in_err-put_entry-2
returns-in_err-put_entry-2 g c =
    let page = c.args.page.now in
    let number = spaced (c.args.number ∷ []) in
    let value = spaced (c.args.step.value ∷ []) in
    let count = spaced (c.args.step.count ∷ []) in
    let back = c.from_residual-in_err-put_entry-2 in
    puts_as (entry_second page (codes "step") number (codes " value") value (codes " count") count (10 ∷ []))
    (puts_failed ((codes " count" ++ count) ++ 10 ∷ []) c.put_entry-2.new.page (err_from_is_err_and back.result back.ensures.1).1
    (puts_after (codes " value" ++ value) c.in_ok-put_entry.ensures.ok c.in_ok-put_entry.ensures.cause.ok c.in_err-put_entry-2.ensures))

pub returns-in_err-put_entry-3 : goal.returns-in_err-put_entry-3
returns-in_err-put_entry-3 g c =
    let page = c.args.page.now in
    let number = spaced (c.args.number ∷ []) in
    let value = spaced (c.args.step.value ∷ []) in
    let count = spaced (c.args.step.count ∷ []) in
    let back = c.from_residual-in_err-put_entry-3 in
    puts_as (entry_parts page (codes "step") number (codes " value") value (codes " count") count (10 ∷ []))
    (puts_failed (10 ∷ []) c.put_entry-3.new.page (err_from_is_err_and back.result back.ensures.1).1
    (puts_after (codes " count" ++ count) (split_then (codes " value" ++ value) c.in_ok-put_entry.ensures.ok c.in_ok-put_entry-2.ensures.ok)
    (c.in_ok-put_entry-2.ensures.cause.ok ∙ c.in_ok-put_entry.ensures.cause.ok) c.in_err-put_entry-3.ensures))

pub returns : goal.returns
returns g c =
    let page = c.args.page.now in
    let number = spaced (c.args.number ∷ []) in
    let value = spaced (c.args.step.value ∷ []) in
    let count = spaced (c.args.step.count ∷ []) in
    puts_as (entry_parts page (codes "step") number (codes " value") value (codes " count") count (10 ∷ []))
    (puts_after (10 ∷ []) (split_then (codes " count" ++ count) (split_then (codes " value" ++ value) c.in_ok-put_entry.ensures.ok c.in_ok-put_entry-2.ensures.ok) c.in_ok-put_entry-3.ensures.ok)
    (c.in_ok-put_entry-3.ensures.cause.ok ∙ c.in_ok-put_entry-2.ensures.cause.ok ∙ c.in_ok-put_entry.ensures.cause.ok) c.put.ensures)
