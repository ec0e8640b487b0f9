use Rattle.std.proofs.Common.{arith}
use Rattle.round_workers.proofs.Marking.{fair_small}
use Rattle.min_value.proofs.Kept.{fair_is}
use Rattle.min_value.proofs.closing.reduce_by_scans.Goals as goal

pub is_bare-requires-clause-value : goal.is_bare-requires-clause-value
is_bare-requires-clause-value g c =
    let small = fair_small c.args.graph.now c.n-n.ensures.edge_list.is_graph c.args.value (fair_is c.args.graph.now c.args.value c.requires.enough c.requires.value) in
    omega arith
