use Rattle.std.proofs.Common.{arith}
use Rattle.tree_tests.proofs.Tested.{is_part}
use Rattle.tree_tests.proofs.assemblies.part.Goals as goal

pub returns : goal.returns
returns c = is_part c.args.chain.now c.args.number _ c.in_ok-own.ensures (omega (arith, c.in_ok-cactus.ensures.n, c.len-count.ensures))
