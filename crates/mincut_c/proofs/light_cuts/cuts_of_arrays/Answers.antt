-- What is found for the list is found for the graph of the arrays.
use Rattle.edge_arrays.specs.Given.{given}
use Rattle.mincut_c.proofs.LightCuts.{cuts_as}
use Rattle.mincut_c.proofs.light_cuts.cuts_of_arrays.Goals as goal

pub returns-clause-cuts : goal.returns-clause-cuts
returns-clause-cuts c =
    let g = given c.args.n c.args.us.now c.args.vs.now c.args.ws.now in
    let list = c.in_ok-list.list in
    let same = c.in_ok-list.ensures.graph in
    cuts_as list g c.args.wanted.0 c.args.wanted.1 c.in_ok-cuts.cuts.items same (c.same_value.ensures list g same) (c.same_mincuts.ensures list g same) c.in_ok-cuts.ensures
