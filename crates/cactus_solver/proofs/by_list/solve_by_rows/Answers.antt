-- A graph with fewer than two components is connected.
use Rattle.std.proofs.Common.{sym, ◌∙◌, subst, arith}
use Rattle.cut_definitions.specs.Components.{IsConnected}
use Rattle.cactus_solver.proofs.Connected.{connected_by_count}
use Rattle.cactus_solver.proofs.by_list.solve_by_rows.Goals as goal

pub solve_reduced-requires-clause-connected : goal.solve_reduced-requires-clause-connected
solve_reduced-requires-clause-connected g c =
    subst IsConnected (sym (c.in_ok-reduced-2.ensures.list ∙ c.in_ok-reduced.ensures.list))
    (connected_by_count c.args.list c.in_ok-components.components c.requires.enough c.in_ok-components.ensures.counted c.in_ok-components.ensures.none
    (omega (arith, c.if-components-ge2.false)))
