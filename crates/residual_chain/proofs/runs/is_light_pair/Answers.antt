use Rattle.std.proofs.Common.{rules}
use Rattle.residual_chain.proofs.runs.is_light_pair.Goals as goal

pub returns : goal.returns
returns c = search rules
