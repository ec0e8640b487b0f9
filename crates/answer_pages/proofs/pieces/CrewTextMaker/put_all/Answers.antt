use Rattle.std.proofs.Common.{◌≡◌, List, ℕ, ◌++◌, ◌+◌, ◌∙◌, length, refl, ap, arith}
use Rattle.std.proofs.lemmas.Result.{err_from_is_err_and}
use Rattle.answer_pages.specs.Lines.{joined_between, texts}
use Rattle.answer_pages.proofs.Putting.{puts_as, puts_after, puts_failed, puts_ok}
use Rattle.answer_pages.proofs.Between.{between_all, range_put, range_behind, range_start}
use Rattle.answer_pages.proofs.pieces.CrewTextMaker.put_all.Goals as goal

pub put_run-requires-sync-R : goal.put_run-requires-sync-R
put_run-requires-sync-R g c κs within = c.requires

pub put_long-requires-sync-R : goal.put_long-requires-sync-R
put_long-requires-sync-R g c κs within = c.requires

pub runs-preserved : goal.runs-preserved
runs-preserved g c =
    let ts = texts c.args.lines in
    let long = c.next_long-long.result in
    record {
      high = c.next_long-long.ensures.no_more;
      put = range_put c.args.page.now ts 0 c.runs.next long (omega arith) c.next_long-long.ensures.no_less c.runs.invariant.put c.in_ok-put_run.ensures.ok;
      same = c.in_ok-put_run.ensures.cause.ok ∙ c.runs.invariant.same;
    }

pub runs-preserved-then-long-count : goal.runs-preserved-then-long-count
runs-preserved-then-long-count g c =
    let ts = texts c.args.lines in
    let long = c.next_long-long.result in
    record {
      high = omega (arith, c.if-long-count.true, c.count-count.ensures);
      put = range_put c.args.page.now ts 0 long (long + 1) (omega arith) (omega arith)
          (range_put c.args.page.now ts 0 c.runs.next long (omega arith) c.next_long-long.ensures.no_less c.runs.invariant.put c.in_ok-put_run.ensures.ok)
          c.in_ok-put_long.ensures.ok;
      same = c.in_ok-put_long.ensures.cause.ok ∙ c.in_ok-put_run.ensures.cause.ok ∙ c.runs.invariant.same;
    }

pub returns-in_err-put_run-clause-puts : goal.returns-in_err-put_run-clause-puts
returns-in_err-put_run-clause-puts g c =
    let ts = texts c.args.lines in
    let long = c.next_long-long.result in
    puts_as (range_behind c.args.page.now ts 0 c.runs.next long (length ts) (omega arith) c.next_long-long.ensures.no_less c.next_long-long.ensures.no_more
    ∙ ap (λ (l : List ℕ). c.args.page.now ++ l) (between_all ts))
    (puts_failed (joined_between ts long (length ts)) c.put_run.new.page (err_from_is_err_and c.from_residual.result c.from_residual.ensures.1).1
    (puts_after (joined_between ts c.runs.next long) c.runs.invariant.put c.runs.invariant.same c.in_err-put_run.ensures))

pub returns-in_err-put_long-clause-puts : goal.returns-in_err-put_long-clause-puts
returns-in_err-put_long-clause-puts g c =
    let ts = texts c.args.lines in
    let long = c.next_long-long.result in
    let back = c.from_residual-in_err-put_long in
    puts_as (range_behind c.args.page.now ts 0 long (long + 1) (length ts) (omega arith) (omega arith) (omega (arith, c.if-long-count.true, c.count-count.ensures))
    ∙ ap (λ (l : List ℕ). c.args.page.now ++ l) (between_all ts))
    (puts_failed (joined_between ts (long + 1) (length ts)) c.put_long.new.page (err_from_is_err_and back.result back.ensures.1).1
    (puts_after (joined_between ts long (long + 1))
    (range_put c.args.page.now ts 0 c.runs.next long (omega arith) c.next_long-long.ensures.no_less c.runs.invariant.put c.in_ok-put_run.ensures.ok)
    (c.in_ok-put_run.ensures.cause.ok ∙ c.runs.invariant.same) c.in_err-put_long.ensures))

pub runs-init : goal.runs-init
runs-init g c = record { high = omega arith; put = range_start c.args.page.now (g.K.Sink.taken c.args.sink.now) (texts c.args.lines) 0; same = refl }

pub next_long-long-requires : goal.next_long-long-requires
next_long-long-requires g c = c.runs.invariant.high

pub returns-clause-puts : goal.returns-clause-puts
returns-clause-puts g c =
    let ts = texts c.args.lines in
    let end : c.runs.next ≡ length ts = omega (arith, c.runs-test.false, c.runs.invariant.high, c.count-count.ensures) in
    puts_as (ap (λ (n : ℕ). c.args.page.now ++ joined_between ts 0 n) end ∙ ap (λ (l : List ℕ). c.args.page.now ++ l) (between_all ts))
    (puts_ok tt c.runs.invariant.put c.runs.invariant.same)
