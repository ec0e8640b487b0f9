-- The start of one row more.
use Rattle.std.proofs.Common.{length, ap, List}
use Rattle.weighted_graph.specs.declared.graph.Arc.{Arc}
use Rattle.max_flow.proofs.RowStarts.{starts_more}
use Rattle.max_flow.proofs.rows.starts_of.Goals as goal

pub loop-v-preserved : goal.loop-v-preserved
loop-v-preserved c =
    rw c.in_ok-push-2.ensures.items
    (starts_more c.args.graph.now c.loop-v.starts.items c.loop-v.v c.loop-v.total _ c.loop-v.invariant (ap (λ (row : List Arc). length row) c.row.ensures.value) c.row.ensures.edge_list.few_edges)
