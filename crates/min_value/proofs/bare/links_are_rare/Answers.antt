use Rattle.std.proofs.Common.{arith}
use Rattle.min_value.proofs.bare.links_are_rare.Goals as goal

pub loop-init : goal.loop-init
loop-init c = record { stands = c.start.ensures.stands c.args.graph.now c.in_ok-scan.ensures.stands; few = omega arith }
