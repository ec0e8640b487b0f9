-- No edge weighs more than the whole graph may.
use Rattle.region_flow.proofs.Starting.{edge_weight_small}
use Rattle.region_flow.proofs.tree.leads_on.Goals as goal

pub residual_on-requires-clause-small : goal.residual_on-requires-clause-small
residual_on-requires-clause-small c = rw c.requires.arc.same_weight (edge_weight_small c.args.task.graph.now c.requires.edge_list.is_graph c.args.arc.now.edge c.requires.arc.within)
