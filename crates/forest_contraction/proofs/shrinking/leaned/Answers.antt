use Rattle.weighted_graph.proofs.SafeContraction.{parts_none}
use Rattle.forest_contraction.proofs.shrinking.leaned.Goals as goal

pub returns : goal.returns
returns c = c.between_classes.ensures.left c.args.bound (parts_none c.args.list.now c.in_ok-labels.labels c.args.bound c.in_ok-labels.ensures.safe)
