use Rattle.std.proofs.Common.{◌+◌, ◌∙◌, ◌≡◌, ◌<◌, length, get_or, drop, arith}
use Rattle.std.specs.List.{flat_map}
use Rattle.std.proofs.lemmas.List.{get_or_default}
use Rattle.std.proofs.lemmas.Result.{err_from_is_err_and}
use Rattle.answer_pages.proofs.Putting.{split_then, split_as, puts_as, puts_after, puts_failed, entry_put, entries_put}
use Rattle.answer_pages.specs.Augmenting.{edge_line}
use Rattle.answer_pages.proofs.augment_pages.put_edges.Goals as goal

pub each_edge-preserved : goal.each_edge-preserved
each_edge-preserved g c =
    let xs = c.args.edges.now in
    let x = get_or xs c.each_edge.i (0, 0) in
    let within : c.each_edge.i < length xs = omega (arith, c.each_edge-test.true) in
    let there : x ≡ get_or xs c.each_edge.i x = get_or_default xs c.each_edge.i (0, 0) x within in
    record {
      put = split_as (entry_put edge_line c.args.page.now xs c.each_edge.i x there within) (split_then (edge_line x) c.each_edge.invariant.put c.in_ok-put_line.ensures.ok);
      same = c.in_ok-put_line.ensures.cause.ok ∙ c.each_edge.invariant.same;
    }

pub returns-in_err-put_line : goal.returns-in_err-put_line
returns-in_err-put_line g c =
    let xs = c.args.edges.now in
    let x = get_or xs c.each_edge.i (0, 0) in
    let within : c.each_edge.i < length xs = omega (arith, c.each_edge-test.true) in
    let there : x ≡ get_or xs c.each_edge.i x = get_or_default xs c.each_edge.i (0, 0) x within in
    let i = c.each_edge.i in
    puts_as (entries_put edge_line c.args.page.now xs i x there within)
    (puts_failed (flat_map edge_line (drop (i + 1) xs)) c.put_line.new.page (err_from_is_err_and c.from_residual.result c.from_residual.ensures.1).1
    (puts_after (edge_line x) c.each_edge.invariant.put c.each_edge.invariant.same c.in_err-put_line.ensures))
