-- The least degree is the weight of a cut.
use Rattle.std.proofs.Common.{arith}
use Rattle.forest_contraction.proofs.Lessening.{lowered_same, lowered_by_degree}
use Rattle.forest_contraction.proofs.shrinking.lowered.Goals as goal

pub returns-then-n-lt2 : goal.returns-then-n-lt2
returns-then-n-lt2 c = lowered_same c.args.list.now c.args.bound

pub returns : goal.returns
returns c =
    rw c.min.ensures (lowered_by_degree c.args.list.now c.n.ensures.edge_list.is_graph c.args.bound c.in_ok-least.least (omega (arith, c.if-n-lt2.false, c.n.ensures.value)) c.in_ok-least.ensures)
