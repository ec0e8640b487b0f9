-- The least degree is the value just where no edge is too heavy for it.
use Rattle.std.proofs.Common.{refl, sym, ◌∙◌, arith}
use Rattle.std.proofs.lemmas.Bool.{false≢true}
use Rattle.least_cut.proofs.ByDegrees.{degrees_fit, dense_is_light, least_degree_is, light_is_dense}
use Rattle.least_cut.proofs.dense.value_of_dense.Goals as goal

pub are_light-requires-clause-fits : goal.are_light-requires-clause-fits
are_light-requires-clause-fits c = degrees_fit c.args.list.now c.n.ensures.edge_list.is_graph c.in_ok-least.least c.in_ok-least.ensures.least (omega (arith, c.requires))

pub returns-then-are_light-clause-some : goal.returns-then-are_light-clause-some
returns-then-are_light-clause-some c =
    let light = rw (c.n.ensures.value, c.edges.ensures.value) at (c.are_light.ensures.0 c.if-are_light.true) in
    least_degree_is c.args.list.now c.n.ensures.edge_list.is_graph c.requires c.in_ok-least.least c.in_ok-least.ensures light

pub returns-then-are_light-clause-dense : goal.returns-then-are_light-clause-dense
returns-then-are_light-clause-dense c =
    let light = rw (c.n.ensures.value, c.edges.ensures.value) at (c.are_light.ensures.0 c.if-are_light.true) in
    ((λ t. light_is_dense c.args.list.now c.in_ok-least.least c.in_ok-least.ensures light), (λ dense. refl))

pub returns-else-are_light-clause-dense : goal.returns-else-are_light-clause-dense
returns-else-are_light-clause-dense c = (
  (λ t. absurd (false≢true t)),
  (λ dense.
      let light = dense_is_light c.args.list.now c.in_ok-least.least (omega (arith, c.requires)) c.in_ok-least.ensures dense in
      absurd (false≢true (sym c.if-are_light.false ∙ c.are_light.ensures.1 (rw (c.n.ensures.value, c.edges.ensures.value) light)))),
)
