use Rattle.std.proofs.Common.{arith}
use Rattle.cactus_merge.proofs.Inserted.{inserted_at}
use Rattle.cactus_merge.proofs.node.smaller.Goals as goal

pub returns-else-list-place-clause-place : goal.returns-else-list-place-clause-place
returns-else-list-place-clause-place c = inserted_at c.args.vertex c.args.list.now c.smaller.place c.smaller.invariant.within c.smaller.invariant.before (λ h. omega arith)

pub returns-after-smaller-clause-place : goal.returns-after-smaller-clause-place
returns-after-smaller-clause-place c = inserted_at c.args.vertex c.args.list.now c.smaller.place c.smaller.invariant.within c.smaller.invariant.before (λ h. omega arith)
