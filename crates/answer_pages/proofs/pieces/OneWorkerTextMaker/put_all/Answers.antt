use Rattle.std.proofs.Common.{List, ℕ, ◌++◌, ◌∙◌, ap, arith}
use Rattle.answer_pages.specs.Lines.{joined_between, texts}
use Rattle.answer_pages.proofs.Putting.{puts_as}
use Rattle.answer_pages.proofs.Between.{between_all}
use Rattle.answer_pages.proofs.pieces.OneWorkerTextMaker.put_all.Goals as goal

pub put-requires-clause-ordered : goal.put-requires-clause-ordered
put-requires-clause-ordered g c = omega arith

pub put-requires-clause-within : goal.put-requires-clause-within
put-requires-clause-within g c = omega (arith, c.count.ensures)

pub returns-clause-puts : goal.returns-clause-puts
returns-clause-puts g c =
    let ts = texts c.args.lines in
    puts_as (ap (λ (n : ℕ). c.args.page.now ++ joined_between ts 0 n) c.count.ensures ∙ ap (λ (l : List ℕ). c.args.page.now ++ l) (between_all ts)) c.put.ensures
