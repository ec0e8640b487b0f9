use Rattle.std.proofs.Common.{rules}
use Rattle.max_flow.proofs.search.bottleneck_along.Goals as goal

pub returns-clause-new : goal.returns-clause-new
returns-clause-new c = search rules
