-- Without a limit the flow is not cut short.
use Rattle.std.proofs.Common.{arith}
use Rattle.region_flow.proofs.regions.RegionFlow.flow.Goals as goal

pub returns-in-None-clause-stopped : goal.returns-in-None-clause-stopped
returns-in-None-clause-stopped c = absurd (omega (arith, c.flow_within.ensures.cut_short c.in-None.is))
