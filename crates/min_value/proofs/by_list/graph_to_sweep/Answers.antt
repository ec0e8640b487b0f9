-- The graph has the value of the list, renumbered or not.
use Rattle.std.proofs.Common.{◌≤◌, ◌∙◌, ap, subst, sym}
use Rattle.cut_definitions.specs.Graph.{Graph}
use Rattle.cut_definitions.specs.Cuts.{value}
use Rattle.vertex_order.proofs.Keeping.{near_stands}
use Rattle.min_value.proofs.by_list.graph_to_sweep.Goals as goal

pub returns-clause-value : goal.returns-clause-value
returns-clause-value g c =
    ap value c.into_graph.ensures ∙ (near_stands c.args.list c.n-n.ensures.edge_list.is_graph c.requires.enough c.in_ok-near.near c.in_ok-near.ensures).same_value

pub returns-clause-enough : goal.returns-clause-enough
returns-clause-enough g c =
    subst (λ (s : Graph). 2 ≤ s.vertices) (sym c.into_graph.ensures)
    (near_stands c.args.list c.n-n.ensures.edge_list.is_graph c.requires.enough c.in_ok-near.near c.in_ok-near.ensures).enough
