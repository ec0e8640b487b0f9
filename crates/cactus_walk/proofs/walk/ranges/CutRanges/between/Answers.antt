-- The places of two borders of a block are in order, and within the list.
use Rattle.std.proofs.Common.{ap, length, arith}
use Rattle.cactus_walk.proofs.Chains.{no_less}
use Rattle.cactus_walk.proofs.Stepping.{border_is, place_within}
use Rattle.cactus_walk.proofs.walk.ranges.CutRanges.between.Goals as goal

pub returns-clause-fits : goal.returns-clause-fits
returns-clause-fits c = λ behind within.
    let r = c.args.self.now in
    let bs = r.borders.items in
    let from = ap (λ b. b.place) (border_is bs c.args.start c.index.result.now c.index.ensures c.requires.start) in
    let to = ap (λ b. b.place) (border_is bs c.args.end c.index-2.result.now c.index-2.ensures c.requires.end) in (
      omega (arith, from, to, no_less bs c.args.start c.args.start c.args.end r.chained (omega arith) behind within),
      omega (arith, to, place_within (length r.order.items) bs c.args.end r.within c.requires.end),
    )
