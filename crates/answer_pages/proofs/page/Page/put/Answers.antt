use Rattle.std.proofs.Common.{◌≡◌, ◌++◌, rules}
use Rattle.std.proofs.lemmas.Result.{err_from_is_err_and}
use Rattle.answer_pages.proofs.Putting.{puts_failed, puts_more}
use Rattle.answer_pages.proofs.page.Page.put.Goals as goal

pub returns-in_err-make_room : goal.returns-in_err-make_room
returns-in_err-make_room g c = puts_failed c.args.piece.now c.make_room.new.self (err_from_is_err_and c.from_residual.result c.from_residual.ensures.1).1 c.in_err-make_room.ensures.puts

pub returns : goal.returns
returns g c =
    let held : c.extend_from_slice.new.self.items ≡ c.make_room.new.self ++ c.args.piece.now = search rules in
    puts_more c.in_ok-make_room.field-0 c.args.piece.now held c.in_ok-make_room.ensures.puts
