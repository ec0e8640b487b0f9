use Rattle.std.proofs.Common.{◌≡◌, ◌<◌, ◌+◌, ◌&&◌, Bool, false, length, slice_index_or, ap, sym, ◌∙◌, arith, rules}
use Rattle.std.specs.List.{list_all, range_with_len}
use Rattle.std.proofs.lemmas.List.{get_or_read}
use Rattle.cactus_text.proofs.Rules.{lacks_last, all_more}
use Rattle.cactus_text.proofs.sets.Seen.has_all.Goals as goal

pub returns-then-n-len : goal.returns-then-n-len
returns-then-n-len c =
    let count : c.len.result ≡ length c.self.inside.marks.items = search rules in
    sym (lacks_last c.args.self.now c.args.n (omega (arith, c.if-n-len.true, count, ap (length {A = Bool}) c.self.view_is)))

pub vertices-preserved : goal.vertices-preserved
vertices-preserved c =
    let marks = c.self.inside.marks.items in
    let v = c.vertices.v in
    let count : c.len.result ≡ length marks = search rules in
    let within : v + 1 < length marks = omega (arith, count, c.if-n-len.false, c.vertices-test.true) in
    let mark : c.index.result.now ≡ slice_index_or marks (v + 1) false = get_or_read marks (v + 1) c.index.result.now within c.index.ensures false in
    ap (λ (b : Bool). b && c.index.result.now) c.vertices.invariant
    ∙ ap (λ (b : Bool). list_all (λ u. slice_index_or marks u false) (range_with_len 1 v) && b) mark
    ∙ sym (all_more (λ u. slice_index_or marks u false) v)
