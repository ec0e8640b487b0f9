use Rattle.std.proofs.Common.{◌++◌, ◌∷◌, [], ◌∙◌}
use Rattle.std.specs.Prelude.{codes}
use Rattle.std.proofs.lemmas.Result.{err_from_is_err_and}
use Rattle.answer_pages.specs.Text.{line}
use Rattle.answer_pages.proofs.Putting.{split_then, puts_as, puts_after, puts_failed, line_word, three_parts}
use Rattle.answer_pages.proofs.pages.BalancedTextText.put.Goals as goal

pub returns-in_err-put_line : goal.returns-in_err-put_line
returns-in_err-put_line g c =
    let value = line (codes "value") (c.args.self.0 ∷ []) in
    let size = line (codes "balance") (c.args.self.1 ∷ []) in
    let side = line (codes "side") c.args.self.2.now.members in
    puts_as (line_word c.args.page.now value size side)
    (puts_failed (size ++ side) c.put_line.new.page (err_from_is_err_and c.from_residual.result c.from_residual.ensures.1).1 c.in_err-put_line.ensures)

pub returns-in_err-put_line-2 : goal.returns-in_err-put_line-2
returns-in_err-put_line-2 g c =
    let value = line (codes "value") (c.args.self.0 ∷ []) in
    let size = line (codes "balance") (c.args.self.1 ∷ []) in
    let side = line (codes "side") c.args.self.2.now.members in
    puts_as (three_parts c.args.page.now value size side)
    (puts_failed side c.put_line-2.new.page (err_from_is_err_and c.from_residual-in_err-put_line-2.result c.from_residual-in_err-put_line-2.ensures.1).1
    (puts_after size c.in_ok-put_line.ensures.ok c.in_ok-put_line.ensures.cause.ok c.in_err-put_line-2.ensures))

pub returns : goal.returns
returns g c =
    let value = line (codes "value") (c.args.self.0 ∷ []) in
    let size = line (codes "balance") (c.args.self.1 ∷ []) in
    let side = line (codes "side") c.args.self.2.now.members in
    puts_as (three_parts c.args.page.now value size side)
    (puts_after side (split_then size c.in_ok-put_line.ensures.ok c.in_ok-put_line-2.ensures.ok)
    (c.in_ok-put_line-2.ensures.cause.ok ∙ c.in_ok-put_line.ensures.cause.ok) c.put_worded_side.ensures)
