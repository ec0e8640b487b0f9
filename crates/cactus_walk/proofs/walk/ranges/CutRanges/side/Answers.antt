-- The side has the vertices that were put into it.
use Rattle.std.proofs.Common.{◌≡◌, ◌∙◌, ap, arith, length}
use Rattle.rooted_cactus.proofs.Elements.{side_filled}
use Rattle.rooted_cactus.specs.Places.{side_at}
use Rattle.cactus_walk.specs.Weighing.{range_of}
use Rattle.cactus_walk.proofs.walk.ranges.CutRanges.side.Goals as goal

pub returns-clause-side : goal.returns-clause-side
returns-clause-side c =
    let r = range_of c.args.span in
    side_filled c.len.result c.deref.result.now r c.in_ok-side.side c.put_range.new.side c.in_ok-side.ensures c.put_range.ensures.set
    ∙ ap (λ k. side_at k c.deref.result.now r) (let long : c.len.result ≡ length c.args.self.now.order.items = omega (arith, c.len.ensures, c.args.self.now.order.ok.0) in long)
    ∙ ap (λ o. side_at (length c.args.self.now.order.items) o r) c.deref.ensures.value
