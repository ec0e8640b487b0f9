use Rattle.canonical_cactus.proofs.Arrangement.{arranged_bridge, arranged_cycle}
use Rattle.canonical_cactus.proofs.standing.draw_block.Goals as goal

pub returns-in-Bridge-clause-least : goal.returns-in-Bridge-clause-least
returns-in-Bridge-clause-least c = rw (c.in-Bridge.is, arranged_bridge, ← c.deref.ensures) c.draw_least.ensures.least

pub returns-in-Cycle-clause-least : goal.returns-in-Cycle-clause-least
returns-in-Cycle-clause-least c = rw (c.in-Cycle.is, arranged_cycle) c.draw_cycle.ensures.least
