use Rattle.cut_definitions.proofs.Bridge.{IsAscendingWithin-filter}
use Rattle.std.proofs.Common.{arith}
use Rattle.vertex_set.specs.Side.{has_bit}
use Rattle.vertex_set.proofs.side.Side.n.Goals as goal

pub returns-clause-ascending : goal.returns-clause-ascending
returns-clause-ascending c =
    rw (← c.self.view_is) (IsAscendingWithin-filter c.self.inside.n 1 c.self.inside.n (has_bit c.self.inside.words.items) (omega arith))
