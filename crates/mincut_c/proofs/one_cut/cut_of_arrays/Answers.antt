-- What is found for the list is found for the graph of the arrays, and no cut weighs more than all edges together.
use Rattle.std.proofs.Common.{arith}
use Rattle.edge_arrays.specs.Given.{given}
use Rattle.min_value.proofs.Scanned.{value_fits}
use Rattle.mincut_c.proofs.CutBytes.{cut_as, none_as}
use Rattle.mincut_c.proofs.one_cut.cut_of_arrays.Goals as goal

pub returns-clause-some : goal.returns-clause-some
returns-clause-some c =
    let g = given c.args.n c.args.us.now c.args.vs.now c.args.ws.now in
    let list = c.in_ok-list.list in
    let same = c.in_ok-list.ensures.graph in
    cut_as list g c.in_ok-found.found same (c.same_value.ensures list g same) (c.same_mincuts.ensures list g same) c.in_ok-found.ensures.some

pub returns-clause-none : goal.returns-clause-none
returns-clause-none c =
    let g = given c.args.n c.args.us.now c.args.vs.now c.args.ws.now in
    let list = c.in_ok-list.list in
    none_as list g c.args.bound c.in_ok-found.found (c.same_value.ensures list g c.in_ok-list.ensures.graph) c.in_ok-found.ensures.none

pub returns-clause-fits : goal.returns-clause-fits
returns-clause-fits c =
    let list = c.in_ok-list.list in
    let same = c.same_value.ensures list (given c.args.n c.args.us.now c.args.vs.now c.args.ws.now) c.in_ok-list.ensures.graph in
    omega (arith, same, value_fits list c.n.ensures.edge_list.is_graph (omega (arith, c.if-n-lt2.false, c.n.ensures.value)))
