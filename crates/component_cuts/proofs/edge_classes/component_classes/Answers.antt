-- A set that no edge parts weighs nothing, and the number 0 is in no edge.
use Rattle.weighted_graph.proofs.Joined.{zero_alone}
use Rattle.component_cuts.proofs.edge_classes.component_classes.Goals as goal

pub returns-clause-apart : goal.returns-clause-apart
returns-clause-apart c = zero_alone c.args.list.now c.n.ensures.edge_list.is_graph c.join_ends.new.classes c.join_ends.ensures.joined
