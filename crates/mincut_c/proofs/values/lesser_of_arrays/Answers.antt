-- No cut weighs more than all edges together.
use Rattle.std.proofs.Common.{arith}
use Rattle.edge_arrays.specs.Given.{given}
use Rattle.min_value.proofs.Scanned.{value_fits}
use Rattle.mincut_c.proofs.values.lesser_of_arrays.Goals as goal

pub returns-clause-fits : goal.returns-clause-fits
returns-clause-fits c =
    let list = c.in_ok-list.list in
    let same = c.same_value.ensures list (given c.args.n c.args.us.now c.args.vs.now c.args.ws.now) c.in_ok-list.ensures.graph in
    omega (arith, same, value_fits list c.n.ensures.edge_list.is_graph (omega (arith, c.if-n-lt2.false, c.n.ensures.value)))
