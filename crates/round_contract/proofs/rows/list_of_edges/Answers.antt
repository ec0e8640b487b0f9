use Rattle.std.proofs.Common.{◌∙◌, subst, sym}
use Rattle.cut_definitions.specs.Graph.{IsEdgeList}
use Rattle.round_contract.proofs.RowSums.{few_rows, relabel_made}
use Rattle.round_contract.proofs.rows.list_of_edges.Goals as goal

pub from_edges-requires : goal.from_edges-requires
from_edges-requires c =
    subst IsEdgeList (sym (relabel_made c.args.graph.now c.args.labels.now c.classes.result c.args.edges.items c.classes.ensures.value c.requires.edges))
    (few_rows c.args.graph.now c.n-n.ensures.edge_list c.args.labels.now (record { are_labels = c.classes.ensures.labels; long = c.requires.labels }) c.requires.few)

pub returns : goal.returns
returns c = c.from_edges.ensures ∙ relabel_made c.args.graph.now c.args.labels.now c.classes.result c.args.edges.items c.classes.ensures.value c.requires.edges
