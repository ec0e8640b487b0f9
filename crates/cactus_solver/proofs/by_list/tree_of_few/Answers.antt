-- A graph with fewer than two components is connected.
use Rattle.std.proofs.Common.{sym, ◌∙◌, subst, arith}
use Rattle.cut_definitions.specs.Components.{IsConnected}
use Rattle.cactus_solver.proofs.Connected.{connected_by_count}
use Rattle.cactus_solver.proofs.by_list.tree_of_few.Goals as goal

pub sweep_reduced-requires-clause-connected : goal.sweep_reduced-requires-clause-connected
sweep_reduced-requires-clause-connected g c =
    subst IsConnected (sym (c.in_ok-reduced.ensures.list ∙ c.in_ok-graph.ensures))
    (connected_by_count c.args.list c.in_ok-components.components c.requires.enough c.in_ok-components.ensures.counted c.in_ok-components.ensures.none
    (omega (arith, c.if-components-ge2.false)))
