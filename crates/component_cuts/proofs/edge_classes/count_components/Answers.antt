-- There are as many components as classes.
use Rattle.weighted_graph.proofs.Joined.{components_counted, none_without_vertices}
use Rattle.component_cuts.proofs.edge_classes.count_components.Goals as goal

pub returns-clause-counted : goal.returns-clause-counted
returns-clause-counted c =
    components_counted c.args.list.now c.in_ok-classes.classes c.count.result c.in_ok-classes.ensures.long c.in_ok-classes.ensures.joined c.count.ensures

pub returns-clause-none : goal.returns-clause-none
returns-clause-none c =
    none_without_vertices c.args.list.now c.count.result
    (components_counted c.args.list.now c.in_ok-classes.classes c.count.result c.in_ok-classes.ensures.long c.in_ok-classes.ensures.joined c.count.ensures)
