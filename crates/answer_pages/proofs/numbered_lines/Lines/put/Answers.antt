use Rattle.std.proofs.Common.{[], ◌+◌, ◌≡◌, ◌++◌, get_or, ◌∙◌, ap, refl, arith}
use Rattle.std.proofs.lemmas.Result.{err_from_is_err_and}
use Rattle.answer_pages.specs.Lines.{joined_between, texts}
use Rattle.answer_pages.proofs.Putting.{puts_as, puts_after, puts_failed, puts_ok}
use Rattle.answer_pages.proofs.Between.{range_start, line_put, lines_behind}
use Rattle.answer_pages.proofs.numbered_lines.Lines.put.Goals as goal

pub each_line-init : goal.each_line-init
each_line-init g c = record {
  low = omega arith;
  put = range_start c.args.page.now (g.K.Sink.taken c.args.sink.now) (texts c.args.self.now) c.args.from;
  same = refl;
}

pub each_line-preserved : goal.each_line-preserved
each_line-preserved g c =
    let ts = texts c.args.self.now in
    let i = c.each_line.i in
    record {
      low = omega (arith, c.each_line.invariant.low);
      put = line_put c.args.page.now ts c.args.from i c.each_line.invariant.low (omega (arith, c.each_line-test.true, c.requires.within)) c.each_line.invariant.put c.in_ok-put_one.ensures.ok;
      same = c.in_ok-put_one.ensures.cause.ok ∙ c.each_line.invariant.same;
    }

pub returns-in_err-put_one : goal.returns-in_err-put_one
returns-in_err-put_one g c =
    let ts = texts c.args.self.now in
    let i = c.each_line.i in
    puts_as (lines_behind c.args.page.now ts c.args.from i c.args.to c.each_line.invariant.low (omega (arith, c.each_line-test.true)) c.requires.within)
    (puts_failed (joined_between ts (i + 1) c.args.to) c.put_one.new.page (err_from_is_err_and c.from_residual.result c.from_residual.ensures.1).1
    (puts_after (get_or ts i []) c.each_line.invariant.put c.each_line.invariant.same c.in_err-put_one.ensures))

pub returns : goal.returns
returns g c =
    let end : c.each_line.i ≡ c.args.to = omega (arith, c.each_line-test.false, c.each_line.auto.i-end, c.requires.ordered) in
    puts_as (ap (λ n. c.args.page.now ++ joined_between (texts c.args.self.now) c.args.from n) end)
    (puts_ok tt c.each_line.invariant.put c.each_line.invariant.same)
