use Rattle.min_value.proofs.Scanned.{tells_lesser}
use Rattle.min_value.proofs.values.sweep.Goals as goal

pub returns : goal.returns
returns c = tells_lesser c.args.graph.now c.n-n.ensures.edge_list.is_graph c.requires c.args.bound c.min.result c.saturating_mul-most.result c.in_ok-swept.swept c.min.ensures c.in_ok-swept.ensures
