use Rattle.std.proofs.Common.{arith}
use Rattle.rooted_cactus.proofs.Sizes.{block_at}
use Rattle.cactus_walk.proofs.walk.repeats.repeats_of.Goals as goal

pub add_marks-requires-clause-hops : goal.add_marks-requires-clause-hops
add_marks-requires-clause-hops c = block_at c.args.sizes.now 0 c.args.entries.now c.requires.hops c.nodes.i c.nodes.i record { children = 0; head = 0 } c.nodes-test.true (omega arith)
