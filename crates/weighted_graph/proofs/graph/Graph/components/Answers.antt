-- There are as many components as classes.
use Rattle.weighted_graph.proofs.Joined.{components_counted, none_without_vertices}
use Rattle.weighted_graph.proofs.graph.Graph.components.Goals as goal

pub returns-clause-counted : goal.returns-clause-counted
returns-clause-counted c =
    components_counted c.args.self.now c.in_ok-classes.classes c.count.result c.in_ok-classes.ensures.long c.in_ok-classes.ensures.joined c.count.ensures

pub returns-clause-none : goal.returns-clause-none
returns-clause-none c =
    none_without_vertices c.args.self.now c.count.result
    (components_counted c.args.self.now c.in_ok-classes.classes c.count.result c.in_ok-classes.ensures.long c.in_ok-classes.ensures.joined c.count.ensures)
