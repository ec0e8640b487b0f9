-- The list is an edge list, and the larger one would be.
use Rattle.cactus_growth.proofs.insertion.with_edge.Goals as goal

pub inserted-requires-clause-ascending : goal.inserted-requires-clause-ascending
inserted-requires-clause-ascending c = rw c.edges.ensures.value c.edges.ensures.edge_list.is_graph.ascending
