use Rattle.std.proofs.Common.{arith}
use Rattle.weighted_graph.proofs.LeastDegree.{least_first, least_is_fair, least_more, least_of_all}
use Rattle.weighted_graph.proofs.graph.Graph.least_degree.Goals as goal

pub loop-v-init : goal.loop-v-init
loop-v-init c = least_first c.args.self.now c.degree-least.result (omega (arith, c.requires)) c.degree-least.ensures

pub loop-v-preserved : goal.loop-v-preserved
loop-v-preserved c =
    rw c.min-least.ensures
    (least_more c.args.self.now c.loop-v.v c.loop-v.least c.degree.result c.loop-v.invariant c.loop-v.auto.v (omega (arith, c.loop-v-test.true, c.n-v-end.ensures.value)) c.degree.ensures)

pub returns-clause-least : goal.returns-clause-least
returns-clause-least c = least_of_all c.args.self.now c.loop-v.v c.loop-v.least c.loop-v.invariant (omega (arith, c.loop-v-test.false, c.n-v-end.ensures.value))

pub returns-clause-fair : goal.returns-clause-fair
returns-clause-fair c = least_is_fair c.args.self.now c.n-v-end.ensures.edge_list.is_graph c.requires c.loop-v.v c.loop-v.least c.loop-v.invariant
