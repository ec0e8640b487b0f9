-- The list of edges is short enough for the product.
use Rattle.std.proofs.Common.{arith}
use Rattle.region_fronts.proofs.order.has_busy_vertex.Goals as goal

pub overflow_mul-long : goal.overflow_mul-long
overflow_mul-long c = omega (arith, c.edges.ensures, c.n-n.ensures.edge_list.few_edges)
