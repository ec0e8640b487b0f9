use Rattle.std.proofs.Common.{◌∷◌, ◌+◌, drop, sym, append-nil, refl, ◌∙◌, arith}
use Rattle.std.proofs.lemmas.Result.{err_from_is_err_and}
use Rattle.std.specs.List.{flat_map}
use Rattle.answer_pages.proofs.Putting.{split_start, split_then, split_as, puts_as, puts_ok, puts_after, puts_failed, entry_put, entries_put, all_put}
use Rattle.answer_pages.proofs.page.Page.put_numbers.Goals as goal

pub each_number-init : goal.each_number-init
each_number-init g c = record { put = split_as (sym (append-nil c.args.self.now)) (split_start _ _); same = refl }

pub each_number-preserved : goal.each_number-preserved
each_number-preserved g c =
    let text = λ (n : g.row.I.Denot). 32 ∷ g.I.Integer.text n in
    let x = c.index-numbers-i.result in
    record {
      put = split_as (entry_put text c.args.self.now c.args.numbers.now c.each_number.i x c.index-numbers-i.is (omega (arith, c.each_number-test.true)))
          (split_then (text x) c.each_number.invariant.put c.in_ok-put_number.ensures.ok);
      same = c.in_ok-put_number.ensures.cause.ok ∙ c.each_number.invariant.same;
    }

pub returns-in_err-put_number : goal.returns-in_err-put_number
returns-in_err-put_number g c =
    let text = λ (n : g.row.I.Denot). 32 ∷ g.I.Integer.text n in
    let x = c.index-numbers-i.result in
    let i = c.each_number.i in
    puts_as (entries_put text c.args.self.now c.args.numbers.now i x c.index-numbers-i.is (omega (arith, c.each_number-test.true)))
    (puts_failed (flat_map text (drop (i + 1) c.args.numbers.now)) c.put_number.new.self (err_from_is_err_and c.from_residual.result c.from_residual.ensures.1).1
    (puts_after (text x) c.each_number.invariant.put c.each_number.invariant.same c.in_err-put_number.ensures))

pub returns : goal.returns
returns g c =
    let text = λ (n : g.row.I.Denot). 32 ∷ g.I.Integer.text n in
    puts_as (all_put text c.args.self.now c.args.numbers.now c.each_number.i (omega (arith, c.each_number-test.false, c.each_number.auto.i-end)))
    (puts_ok tt c.each_number.invariant.put c.each_number.invariant.same)
