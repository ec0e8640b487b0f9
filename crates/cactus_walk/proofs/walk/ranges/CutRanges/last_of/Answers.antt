-- The last border of a block is there.
use Rattle.std.proofs.Common.{ap, arith, length}
use Rattle.cactus_walk.specs.Weighing.{last_of}
use Rattle.cactus_walk.proofs.Between.{block_there}
use Rattle.cactus_walk.proofs.Stepping.{border_is}
use Rattle.cactus_walk.proofs.walk.ranges.CutRanges.last_of.Goals as goal

pub overflow_add-result : goal.overflow_add-result
overflow_add-result c =
    let r = c.args.self.now in
    let bs = r.borders.items in
    omega (arith, ap (λ b. b.following) (border_is bs c.args.start c.index.result.now c.index.ensures c.requires), block_there (length r.order.items) bs c.args.start (last_of r c.args.start) r.within c.requires (omega arith) (omega arith), r.borders.ok.0)

pub returns-clause-is : goal.returns-clause-is
returns-clause-is c = omega (arith, ap (λ b. b.following) (border_is c.args.self.now.borders.items c.args.start c.index.result.now c.index.ensures c.requires))

pub returns-clause-there : goal.returns-clause-there
returns-clause-there c =
    let r = c.args.self.now in
    let bs = r.borders.items in
    omega (arith, ap (λ b. b.following) (border_is bs c.args.start c.index.result.now c.index.ensures c.requires), block_there (length r.order.items) bs c.args.start (last_of r c.args.start) r.within c.requires (omega arith) (omega arith))
