use Rattle.forest_contraction.proofs.Lessening.{tied_none}
use Rattle.forest_contraction.proofs.shrinking.shrunk.Goals as goal

pub returns-clause-left : goal.returns-clause-left
returns-clause-left c =
    rw c.in-Some.is at (c.in_ok-small.ensures.left c.args.bound (tied_none c.args.list.now c.in_ok-at.field-0.at c.args.bound c.in_ok-at.ensures.at.tied))
