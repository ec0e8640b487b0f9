-- A border is at a place of the list or at its end.
use Rattle.std.proofs.Common.{◌<◌, ap, arith, length, slice_index}
use Rattle.std.proofs.lemmas.Grind.{get_or_default_zero}
use Rattle.cactus_walk.proofs.Stepping.{border_is, place_within}
use Rattle.cactus_walk.proofs.walk.ranges.CutRanges.mass_before.Goals as goal

pub index-requires-2 : goal.index-requires-2
index-requires-2 c =
    let r = c.args.self.now in
    let bs = r.borders.items in
    omega (arith, ap (λ b. b.place) (border_is bs c.args.border c.index.result.now c.index.ensures c.requires), place_within (length r.order.items) bs c.args.border r.within c.requires, r.long, r.sums.ok.0)

pub returns : goal.returns
returns c =
    let r = c.args.self.now in
    let bs = r.borders.items in
    let at = ap (λ b. b.place) (border_is bs c.args.border c.index.result.now c.index.ensures c.requires) in
    let there : c.index.result.now.place < length r.sums.items = omega (arith, at, place_within (length r.order.items) bs c.args.border r.within c.requires, r.long) in
    omega (arith, c.index-2.ensures, get_or_default_zero r.sums.items c.index.result.now.place c.index-2.result.now there, ap (slice_index r.sums.items) at)
