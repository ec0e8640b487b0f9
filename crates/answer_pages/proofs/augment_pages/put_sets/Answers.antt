use Rattle.std.proofs.Common.{◌+◌, ◌∙◌, ◌≡◌, get_or, drop, sym, arith}
use Rattle.std.specs.List.{flat_map}
use Rattle.std.proofs.lemmas.Option.{get_or_from_slice_get}
use Rattle.std.proofs.lemmas.Result.{err_from_is_err_and}
use Rattle.answer_pages.proofs.Putting.{split_then, split_as, puts_as, puts_after, puts_failed, entry_put, entries_put}
use Rattle.answer_pages.specs.Augmenting.{set_line}
use Rattle.answer_pages.proofs.augment_pages.put_sets.Goals as goal

pub each_set-preserved : goal.each_set-preserved
each_set-preserved g c =
    let xs = c.args.plan.now.sets in
    let i = c.each_set.i in
    let x = c.set.result.now in
    let there : x ≡ get_or xs i x = sym (get_or_from_slice_get xs i x x c.set.ensures) in
    record {
      put = split_as (entry_put set_line c.args.page.now xs i x there (omega arith)) (split_then (set_line x) c.each_set.invariant.put c.in_ok-put_line.ensures.ok);
      same = c.in_ok-put_line.ensures.cause.ok ∙ c.each_set.invariant.same;
    }

pub returns-in_err-put_line : goal.returns-in_err-put_line
returns-in_err-put_line g c =
    let xs = c.args.plan.now.sets in
    let i = c.each_set.i in
    let x = c.set.result.now in
    let there : x ≡ get_or xs i x = sym (get_or_from_slice_get xs i x x c.set.ensures) in
    puts_as (entries_put set_line c.args.page.now xs i x there (omega arith))
    (puts_failed (flat_map set_line (drop (i + 1) xs)) c.put_line.new.page (err_from_is_err_and c.from_residual.result c.from_residual.ensures.1).1
    (puts_after (set_line x) c.each_set.invariant.put c.each_set.invariant.same c.in_err-put_line.ensures))
