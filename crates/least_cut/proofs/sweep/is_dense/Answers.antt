-- The vertices times the heaviest edge are at most twice the weight.
use Rattle.std.proofs.Common.{arith}
use Rattle.least_cut.proofs.ByDegrees.{degrees_fit, value_of_light}
use Rattle.least_cut.proofs.sweep.is_dense.Goals as goal

pub are_light-requires-clause-fits : goal.are_light-requires-clause-fits
are_light-requires-clause-fits c = degrees_fit c.args.graph.now c.n.ensures.edge_list.is_graph c.args.weight c.requires.degrees (omega (arith, c.requires.enough))

pub returns : goal.returns
returns c = λ is.
    let g = c.args.graph.now in
    let light = rw (c.n.ensures.value, c.edge_list.ensures.value) at (c.are_light.ensures.0 is) in
    value_of_light g c.n.ensures.edge_list.is_graph c.requires.enough c.args.weight c.requires.degrees light
