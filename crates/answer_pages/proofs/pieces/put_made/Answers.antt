use Rattle.std.proofs.Common.{◌∙◌, ◌≤◌, refl, arith}
use Rattle.std.proofs.lemmas.Result.{err_from_is_err_and}
use Rattle.answer_pages.specs.Lines.{joined_between, texts}
use Rattle.answer_pages.proofs.Putting.{puts_as, puts_after, puts_failed}
use Rattle.answer_pages.proofs.Between.{range_start, range_put, range_end, range_behind}
use Rattle.answer_pages.proofs.pieces.put_made.Goals as goal

pub pieces-init : goal.pieces-init
pieces-init g c = record {
  low = omega arith;
  high = c.requires.ordered;
  put = range_start c.args.page.now (g.K.Sink.taken c.args.sink.now) (texts c.args.lines) c.args.from;
  same = refl;
}

pub pieces-preserved : goal.pieces-preserved
pieces-preserved g c =
    let ts = texts c.args.lines in
    let low : c.pieces.next ≤ c.clamp-end.result = omega (arith, c.clamp-end.ensures, c.pieces.invariant.high) in
    let high : c.clamp-end.result ≤ c.args.to = omega (arith, c.clamp-end.ensures, c.pieces.invariant.high) in
    record {
      low = omega (arith, low, c.pieces.invariant.low);
      high = high;
      put = range_put c.args.page.now ts c.args.from c.pieces.next c.clamp-end.result c.pieces.invariant.low low c.pieces.invariant.put c.in_ok-put.ensures.ok;
      same = c.in_ok-put.ensures.cause.ok ∙ c.pieces.invariant.same;
    }

pub returns-in_err-put : goal.returns-in_err-put
returns-in_err-put g c =
    let ts = texts c.args.lines in
    let low : c.pieces.next ≤ c.clamp-end.result = omega (arith, c.clamp-end.ensures, c.pieces.invariant.high) in
    let high : c.clamp-end.result ≤ c.args.to = omega (arith, c.clamp-end.ensures, c.pieces.invariant.high) in
    puts_as (range_behind c.args.page.now ts c.args.from c.pieces.next c.clamp-end.result c.args.to c.pieces.invariant.low low high)
    (puts_failed (joined_between ts c.clamp-end.result c.args.to) c.put.new.page (err_from_is_err_and c.from_residual.result c.from_residual.ensures.1).1
    (puts_after (joined_between ts c.pieces.next c.clamp-end.result) c.pieces.invariant.put c.pieces.invariant.same c.in_err-put.ensures))

pub returns : goal.returns
returns g c = puts_as (range_end c.args.page.now (texts c.args.lines) c.args.from c.pieces.next c.args.to c.pieces.invariant.low c.pieces.invariant.high)
    (puts_after (joined_between (texts c.args.lines) c.pieces.next c.args.to) c.pieces.invariant.put c.pieces.invariant.same c.put-2.ensures)
