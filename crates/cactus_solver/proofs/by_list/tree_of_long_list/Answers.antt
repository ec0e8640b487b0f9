-- A graph whose value is above 0 is connected.
use Rattle.std.proofs.Common.{sym, subst, arith}
use Rattle.cut_definitions.specs.Components.{IsConnected}
use Rattle.cactus_solver.proofs.Connected.{connected_by_value}
use Rattle.cactus_solver.proofs.by_list.tree_of_long_list.Goals as goal

pub solve_reduced-requires-clause-connected : goal.solve_reduced-requires-clause-connected
solve_reduced-requires-clause-connected g c =
    let told = rw c.in-Some.is at c.in_ok-value.ensures.value in
    subst IsConnected (sym c.in_ok-reduced-in-Some.ensures.list)
    (connected_by_value c.args.list c.n-n.ensures.edge_list.is_graph c.requires.enough (omega (arith, told, c.in-Some.value-is, c.if-value-gt0.true)))
