use Rattle.std.proofs.Common.{◌≡◌, ◌<◌, length, sym, arith}
use Rattle.std.specs.Prelude.{slice_index}
use Rattle.std.proofs.lemmas.List.{get_or_read}
use Rattle.cactus_text.proofs.Labelling.{one_set, more_sets}
use Rattle.cactus_text.proofs.sets.Joined.is_one.Goals as goal

pub returns-then-index-i : goal.returns-then-index-i
returns-then-index-i c labels h =
    let above = c.args.self.now.above.items in
    let i = c.nodes.i in
    let within : i < length above = omega (arith, c.nodes-test.true, c.len-i-end.ensures) in
    let own : slice_index above i ≡ i = omega (arith, get_or_read above i c.index.result.now within c.index.ensures 0, c.if-index-i.true) in
    sym (more_sets above labels i h (omega (arith, c.nodes.auto.i)) within own)

pub returns : goal.returns
returns c labels h = sym (one_set c.args.self.now.above.items labels h (λ k some within. c.nodes.invariant k some (omega (arith, within, c.nodes-test.false, c.len-i-end.ensures))))
