use Rattle.std.proofs.Common.{◌∙◌, ◌≤◌, arith}
use Rattle.std.proofs.lemmas.Result.{err_from_is_err_and}
use Rattle.answer_pages.specs.Lines.{joined_between, texts}
use Rattle.answer_pages.proofs.Putting.{puts_as, puts_after, puts_failed}
use Rattle.answer_pages.proofs.Between.{range_put, range_behind}
use Rattle.answer_pages.proofs.pieces.Crew.put_run.Goals as goal

pub rounds-preserved : goal.rounds-preserved
rounds-preserved g c =
    let ts = texts c.args.lines in
    let low : c.rounds.next ≤ c.deal-end.result = omega (arith, c.deal-end.ensures.more) in
    record {
      low = omega (arith, low, c.rounds.invariant.low);
      high = c.deal-end.ensures.no_more;
      put = range_put c.args.page.now ts c.args.from c.rounds.next c.deal-end.result c.rounds.invariant.low low c.rounds.invariant.put c.in_ok-put_made.ensures.ok;
      same = c.in_ok-put_made.ensures.cause.ok ∙ c.rounds.invariant.same;
    }

pub returns-in_err-put_made : goal.returns-in_err-put_made
returns-in_err-put_made g c =
    let ts = texts c.args.lines in
    let low : c.rounds.next ≤ c.deal-end.result = omega (arith, c.deal-end.ensures.more) in
    puts_as (range_behind c.args.page.now ts c.args.from c.rounds.next c.deal-end.result c.args.to c.rounds.invariant.low low c.deal-end.ensures.no_more)
    (puts_failed (joined_between ts c.deal-end.result c.args.to) c.put_made.new.page (err_from_is_err_and c.from_residual.result c.from_residual.ensures.1).1
    (puts_after (joined_between ts c.rounds.next c.deal-end.result) c.rounds.invariant.put c.rounds.invariant.same c.in_err-put_made.ensures))
