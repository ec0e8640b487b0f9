use Rattle.std.proofs.Common.{List, ℕ, ◌++◌, ◌≡◌, ◌∙◌, ap}
use Rattle.std.proofs.lemmas.Result.{err_from_is_err_and}
use Rattle.answer_pages.specs.Lines.{joined_between, texts}
use Rattle.answer_pages.proofs.Putting.{puts_as, puts_failed, puts_written}
use Rattle.answer_pages.proofs.pieces.Piece.put.Goals as goal

pub returns-in_err-flush : goal.returns-in_err-flush
returns-in_err-flush g c =
    puts_failed (joined_between (texts c.args.lines) c.args.from c.args.to) c.flush.new.self (err_from_is_err_and c.from_residual.result c.from_residual.ensures.1).1 c.in_err-flush.ensures.puts

pub returns-then-self-to : goal.returns-then-self-to
returns-then-self-to g c =
    let ts = texts c.args.lines in
    let own = c.args.self.now in
    let same : c.deref.result.now ≡ joined_between ts c.args.from c.args.to =
    c.deref.ensures.value ∙ c.requires.made c.if-self.true ∙ ap (λ k. joined_between ts k own.to) c.if-self-from.true ∙ ap (λ k. joined_between ts c.args.from k) c.if-self-to.true in
    puts_as (ap (λ (l : List ℕ). c.args.page.now ++ l) same)
    (puts_written c.write_whole.result c.deref.result.now c.in_ok-flush.ensures.puts.ok c.in_ok-flush.ensures.empty c.in_ok-flush.ensures.puts.cause.ok c.write_whole.ensures.whole c.write_whole.ensures.prefix c.write_whole.ensures.cause)
