use Rattle.std.proofs.lemmas.Result.{err_from_is_err_and}
use Rattle.answer_pages.proofs.Putting.{all_taken}
use Rattle.answer_pages.proofs.Above.{flushed, not_flushed}
use Rattle.answer_pages.proofs.text.write_text.Goals as goal

pub returns-in_err-put-clause-prefix : goal.returns-in_err-put-clause-prefix
returns-in_err-put-clause-prefix g c =
    let p = not_flushed (g.T.Text.bytes c.args.text) c.requires.empty (err_from_is_err_and c.from_residual.result c.from_residual.ensures.1).1 c.in_err-put.ensures in
    p.err

pub returns-clause-whole : goal.returns-clause-whole
returns-clause-whole g c =
    let text = g.T.Text.bytes c.args.text in
    let p = flushed text c.requires.empty c.in_ok-put.ensures.ok c.in_ok-put.ensures.cause.ok c.flush.ensures.puts in
    all_taken c.flush.result text c.flush.new.self (g.K.Sink.taken c.args.sink.now) (g.K.Sink.taken c.flush.new.sink) p.ok c.flush.ensures.empty

pub returns-clause-prefix : goal.returns-clause-prefix
returns-clause-prefix g c =
    let p = flushed (g.T.Text.bytes c.args.text) c.requires.empty c.in_ok-put.ensures.ok c.in_ok-put.ensures.cause.ok c.flush.ensures.puts in
    p.err
