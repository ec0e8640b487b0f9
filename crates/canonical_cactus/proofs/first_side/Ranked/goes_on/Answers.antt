-- A border that others of its block follow is not the last one.
use Rattle.std.proofs.Common.{◌+◌, ap, arith}
use Rattle.cactus_walk.proofs.Between.{behind_there}
use Rattle.cactus_walk.proofs.Stepping.{border_is}
use Rattle.canonical_cactus.specs.FirstBest.{count_of}
use Rattle.canonical_cactus.proofs.first_side.Ranked.goes_on.Goals as goal

pub between-requires-clause-end : goal.between-requires-clause-end
between-requires-clause-end c =
    let k = c.args.self.now in
    let bs = k.ranges.borders.items in
    behind_there (count_of k) bs c.args.start (c.args.start + 1) k.ranges.within (omega arith) (omega (arith, ap (λ b. b.following) (border_is bs c.args.start c.index.result.now c.index.ensures c.requires.start), c.if-index-gt0.true))
