use Rattle.edge_arrays.specs.Given.{given}
use Rattle.mincut_c.proofs.Showing.{solved_as}
use Rattle.mincut_c.proofs.solving.solved_of_arrays.Goals as goal

pub returns-clause-solved : goal.returns-clause-solved
returns-clause-solved c =
    let g = given c.args.n c.args.us.now c.args.vs.now c.args.ws.now in
    let list = c.in_ok-list.list in
    let weighs = c.in_ok-list.ensures.graph in
    solved_as list g c.in_ok-solved.solved weighs (c.same_value.ensures list g weighs) (c.same_mincuts.ensures list g weighs) c.in_ok-solved.ensures
