use Rattle.std.proofs.Common.{ap, ◌∙◌}
use Rattle.std.specs.List.{sum_by}
use Rattle.cut_definitions.specs.Scan.{single}
use Rattle.weighted_graph.proofs.RowLaws.{to_term, row_ascends, weight_to_is}
use Rattle.weighted_graph.proofs.RowSearch.{between-swap}
use Rattle.weighted_graph.proofs.graph.Graph.weight.Goals as goal

pub weight_to-requires : goal.weight_to-requires
weight_to-requires c = rw c.row-other.ensures.value (row_ascends c.args.self.now c.row-other.ensures.edge_list.is_graph c.args.v)

pub returns-then-other-row : goal.returns-then-other-row
returns-then-other-row c =
    let g = c.args.self.now in
    c.weight_to.ensures
    ∙ (ap (sum_by (to_term c.args.u)) c.row-other.ensures.value
    ∙ (weight_to_is g c.row-other.ensures.edge_list.is_graph c.args.v (single c.args.u)
    ∙ between-swap g (single c.args.v) (single c.args.u)))

pub weight_to-requires-2 : goal.weight_to-requires-2
weight_to-requires-2 c = rw c.row-row.ensures.value (row_ascends c.args.self.now c.row-row.ensures.edge_list.is_graph c.args.u)

pub returns : goal.returns
returns c =
    c.weight_to-2.ensures
    ∙ (ap (sum_by (to_term c.args.v)) c.row-row.ensures.value
    ∙ weight_to_is c.args.self.now c.row-row.ensures.edge_list.is_graph c.args.u (single c.args.v))
