use Rattle.std.proofs.Common.{◌+◌, ◌∙◌, ◌≡◌, ◌<◌, length, get_or, drop, arith}
use Rattle.std.proofs.lemmas.List.{get_or_default}
use Rattle.std.proofs.lemmas.Result.{err_from_is_err_and}
use Rattle.answer_pages.proofs.Putting.{split_then, split_as, puts_as, puts_after, puts_failed}
use Rattle.answer_pages.specs.declared.growth_pages.Step.{Step}
use Rattle.answer_pages.specs.Growing.{step_line, step_lines}
use Rattle.answer_pages.proofs.Growths.{step_put, steps_put}
use Rattle.answer_pages.proofs.growth_pages.put_steps.Goals as goal

pub each_step-preserved : goal.each_step-preserved
each_step-preserved g c =
    let none : Step = record { value = 0; count = 0 } in
    let xs = c.args.steps.now in
    let i = c.each_step.i in
    let x = get_or xs i none in
    let within : i < length xs = omega (arith, c.each_step-test.true) in
    let there : x ≡ get_or xs i x = get_or_default xs i none x within in
    record {
      put = split_as (step_put c.args.page.now xs i x there within) (split_then (step_line (i + 1) x) c.each_step.invariant.put c.in_ok-put_step.ensures.ok);
      same = c.in_ok-put_step.ensures.cause.ok ∙ c.each_step.invariant.same;
    }

pub returns-in_err-put_step : goal.returns-in_err-put_step
returns-in_err-put_step g c =
    let none : Step = record { value = 0; count = 0 } in
    let xs = c.args.steps.now in
    let i = c.each_step.i in
    let x = get_or xs i none in
    let within : i < length xs = omega (arith, c.each_step-test.true) in
    let there : x ≡ get_or xs i x = get_or_default xs i none x within in
    puts_as (steps_put c.args.page.now xs i x there within)
    (puts_failed (step_lines (i + 1 + 1) (drop (i + 1) xs)) c.put_step.new.page (err_from_is_err_and c.from_residual.result c.from_residual.ensures.1).1
    (puts_after (step_line (i + 1) x) c.each_step.invariant.put c.each_step.invariant.same c.in_err-put_step.ensures))
