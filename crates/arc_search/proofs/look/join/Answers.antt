-- The borders ascend, so the last one that is left is the greatest.
use Rattle.std.proofs.Common.{rules}
use Rattle.arc_search.proofs.look.join.Goals as goal

pub loop-depth-preserved : goal.loop-depth-preserved
loop-depth-preserved c = search rules

pub returns-else-borders-depth : goal.returns-else-borders-depth
returns-else-borders-depth c = search rules
