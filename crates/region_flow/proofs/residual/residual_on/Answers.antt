use Rattle.std.proofs.Common.{rules}
use Rattle.region_flow.proofs.residual.residual_on.Goals as goal

pub returns-else-v-arc : goal.returns-else-v-arc
returns-else-v-arc c = search rules
