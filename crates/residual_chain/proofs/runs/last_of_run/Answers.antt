use Rattle.std.proofs.Common.{rules}
use Rattle.residual_chain.proofs.runs.last_of_run.Goals as goal

pub loop-last-preserved : goal.loop-last-preserved
loop-last-preserved c = search rules
