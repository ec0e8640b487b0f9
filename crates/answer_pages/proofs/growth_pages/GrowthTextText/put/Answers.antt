use Rattle.std.proofs.Common.{append_assoc}
use Rattle.std.proofs.lemmas.Result.{err_from_is_err_and}
use Rattle.answer_pages.specs.Growing.{step_lines}
use Rattle.answer_pages.specs.Text.{cactus_text}
use Rattle.answer_pages.proofs.Putting.{puts_as, puts_after, puts_failed}
use Rattle.answer_pages.proofs.growth_pages.GrowthTextText.put.Goals as goal

pub returns-in_err-put_steps : goal.returns-in_err-put_steps
returns-in_err-put_steps g c =
    let steps = step_lines 1 c.args.self.0.now in
    let text = cactus_text c.args.self.1 c.args.self.2.now in
    puts_as (append_assoc c.args.page.now steps text)
    (puts_failed text c.put_steps.new.page (err_from_is_err_and c.from_residual.result c.from_residual.ensures.1).1 c.in_err-put_steps.ensures)

pub returns : goal.returns
returns g c =
    let steps = step_lines 1 c.args.self.0.now in
    let text = cactus_text c.args.self.1 c.args.self.2.now in
    puts_as (append_assoc c.args.page.now steps text)
    (puts_after text c.in_ok-put_steps.ensures.ok c.in_ok-put_steps.ensures.cause.ok c.put.ensures)
