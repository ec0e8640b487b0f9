-- One vertex more has got the part.
use Rattle.std.proofs.Common.{rules}
use Rattle.arc_search.proofs.Looking.{HasGiven-start, HasGiven-next}
use Rattle.arc_search.proofs.path.number.Goals as goal

pub loop-place-init : goal.loop-place-init
loop-place-init c = HasGiven-start c.args.part c.args.stack.now c.args.from c.args.part_of.now

pub loop-place-preserved : goal.loop-place-preserved
loop-place-preserved c = search (rules, HasGiven-next)
