-- A range of no greater balance stays behind.
use Rattle.std.proofs.Common.{arith}
use Rattle.balanced_cut.proofs.weighed.better.Goals as goal

pub returns-else-balance-clause-put : goal.returns-else-balance-clause-put
returns-else-balance-clause-put c = λ less. absurd (omega (arith, less, c.balance.ensures, c.balance-2.ensures, c.if-balance.false))
