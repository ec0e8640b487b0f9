use Rattle.std.proofs.Common.{◌++◌, ◌∷◌, [], ◌∙◌}
use Rattle.std.proofs.lemmas.Result.{err_from_is_err_and}
use Rattle.std.specs.Prelude.{codes}
use Rattle.std.specs.Fmt.{decimal}
use Rattle.answer_pages.specs.Text.{spaced}
use Rattle.answer_pages.proofs.Putting.{split_then, puts_as, puts_after, puts_failed, node_word, node_number, node_parts}
use Rattle.answer_pages.proofs.printing.put_node.Goals as goal

pub returns-in_err-put : goal.returns-in_err-put
returns-in_err-put g c =
    let number = 32 ∷ decimal c.args.number in
    let vertices = spaced c.args.vertices.now in
    puts_as (node_word c.args.page.now (codes "node") number vertices (10 ∷ []))
    (puts_failed (number ++ vertices ++ 10 ∷ []) c.put.new.self (err_from_is_err_and c.from_residual.result c.from_residual.ensures.1).1 c.in_err-put.ensures)

pub returns-in_err-put_number : goal.returns-in_err-put_number
returns-in_err-put_number g c =
    let number = 32 ∷ decimal c.args.number in
    let vertices = spaced c.args.vertices.now in
    puts_as (node_number c.args.page.now (codes "node") number vertices (10 ∷ []))
    (puts_failed (vertices ++ 10 ∷ []) c.put_number.new.self (err_from_is_err_and c.from_residual-in_err-put_number.result c.from_residual-in_err-put_number.ensures.1).1
    (puts_after number c.in_ok-put.ensures.ok c.in_ok-put.ensures.cause.ok c.in_err-put_number.ensures))

pub returns-in_err-put_numbers : goal.returns-in_err-put_numbers
returns-in_err-put_numbers g c =
    let number = 32 ∷ decimal c.args.number in
    let vertices = spaced c.args.vertices.now in
    puts_as (node_parts c.args.page.now (codes "node") number vertices (10 ∷ []))
    (puts_failed (10 ∷ []) c.put_numbers.new.self (err_from_is_err_and c.from_residual-in_err-put_numbers.result c.from_residual-in_err-put_numbers.ensures.1).1
    (puts_after vertices (split_then number c.in_ok-put.ensures.ok c.in_ok-put_number.ensures.ok)
    (c.in_ok-put_number.ensures.cause.ok ∙ c.in_ok-put.ensures.cause.ok) c.in_err-put_numbers.ensures))

pub returns : goal.returns
returns g c =
    let number = 32 ∷ decimal c.args.number in
    let vertices = spaced c.args.vertices.now in
    puts_as (node_parts c.args.page.now (codes "node") number vertices (10 ∷ []))
    (puts_after (10 ∷ []) (split_then vertices (split_then number c.in_ok-put.ensures.ok c.in_ok-put_number.ensures.ok) c.in_ok-put_numbers.ensures.ok)
    (c.in_ok-put_numbers.ensures.cause.ok ∙ c.in_ok-put_number.ensures.cause.ok ∙ c.in_ok-put.ensures.cause.ok) c.put-2.ensures)
