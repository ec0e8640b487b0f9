-- A graph that is numbered anew keeps all minimum cuts.
use Rattle.std.proofs.Common.{refl, sym, subst}
use Rattle.cut_definitions.specs.Cuts.{value}
use Rattle.cut_definitions.specs.Graph.{Graph}
use Rattle.min_value.specs.Kernels.{IsKept}
use Rattle.min_value.proofs.Numbered.{kept_by_numbering}
use Rattle.cactus_solver.proofs.Standing.{at_own_value}
use Rattle.cactus_solver.proofs.reduced.Reduced.with_rows.Goals as goal

pub returns-in-Renumbered-clause-reduced : goal.returns-in-Renumbered-clause-reduced
returns-in-Renumbered-clause-reduced g c =
    let list = c.args.list in
    let graph = c.in-Renumbered.graph in
    let labels = c.in-Renumbered.labels in
    let near = rw c.in-Renumbered.is at c.in_ok-graph.ensures in
    let kept = kept_by_numbering list c.n-n.ensures.edge_list.is_graph c.requires.enough (value list) labels graph refl near.1 near.2 in
    subst (λ (l : Graph). IsKept l (value graph) graph labels) (sym near.0) (at_own_value list graph (value list) labels kept)
