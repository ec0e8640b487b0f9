use Rattle.std.proofs.lemmas.Result.{err_from_is_err_and}
use Rattle.std.proofs.Common.{◌≡◌, ◌∙◌, ℕ, List, [], ◌∷◌, ◌++◌, ap, append_assoc, rules}
use Rattle.answer_pages.proofs.Putting.{puts_failed, puts_more}
use Rattle.answer_pages.proofs.page.Page.put_number.Goals as goal

pub returns-in_err-make_room : goal.returns-in_err-make_room
returns-in_err-make_room g c = puts_failed (32 ∷ g.I.Integer.text c.args.number) c.make_room.new.self (err_from_is_err_and c.from_residual.result c.from_residual.ensures.1).1 c.in_err-make_room.ensures.puts

pub returns : goal.returns
returns g c =
    let text = g.I.Integer.text c.args.number in
    let before = c.self.inside.bytes.items in
    let digits = c.as_bytes-digits.result.now in
    let first : c.push.new.self.items ≡ before ++ 32 ∷ [] = search rules in
    let second : c.extend_from_slice.new.self.items ≡ c.push.new.self.items ++ digits = search rules in
    let written : digits ≡ text = search rules in
    let held : c.extend_from_slice.new.self.items ≡ c.make_room.new.self ++ 32 ∷ text =
    second ∙ ap (λ (l : List ℕ). l ++ digits) first ∙ append_assoc before (32 ∷ []) digits ∙ ap (λ (l : List ℕ). before ++ 32 ∷ l) written
    ∙ ap (λ (l : List ℕ). l ++ 32 ∷ text) c.self.view_is in
    puts_more c.in_ok-make_room.field-0 (32 ∷ text) held c.in_ok-make_room.ensures.puts
