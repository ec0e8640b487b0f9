-- The graph is dense just where no edge is too heavy for the least degree, and that is the value then.
use Rattle.std.proofs.Common.{arith}
use Rattle.least_cut.proofs.ByDegrees.{degrees_fit, dense_is_light, least_degree_is, light_is_dense}
use Rattle.least_cut.proofs.dense.degree_is_value.Goals as goal

pub are_light-requires-clause-fits : goal.are_light-requires-clause-fits
are_light-requires-clause-fits c = degrees_fit c.args.list.now c.n.ensures.edge_list.is_graph c.args.least c.requires.least.least (omega (arith, c.requires.enough))

pub returns-then-not-has_few_edges-clause-value : goal.returns-then-not-has_few_edges-clause-value
returns-then-not-has_few_edges-clause-value c = λ is.
    let light = rw (c.n.ensures.value, c.edges.ensures.value) at (c.are_light.ensures.0 is) in
    least_degree_is c.args.list.now c.n.ensures.edge_list.is_graph c.requires.enough c.args.least c.requires.least light

pub returns-then-not-has_few_edges-clause-dense : goal.returns-then-not-has_few_edges-clause-dense
returns-then-not-has_few_edges-clause-dense c = (
  (λ is. light_is_dense c.args.list.now c.args.least c.requires.least (rw (c.n.ensures.value, c.edges.ensures.value) at (c.are_light.ensures.0 is))),
  (λ dense. c.are_light.ensures.1 (rw (c.n.ensures.value, c.edges.ensures.value) (dense_is_light c.args.list.now c.args.least (omega (arith, c.requires.enough)) c.requires.least dense))),
)
