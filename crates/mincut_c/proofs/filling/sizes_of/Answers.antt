use Rattle.mincut_c.proofs.Counting.{counted}
use Rattle.mincut_c.proofs.filling.sizes_of.Goals as goal

pub returns-clause-counts : goal.returns-clause-counts
returns-clause-counts c =
    counted c.args.flat.now c.args.least c.node_lists-nodes.result.0.now c.node_lists-nodes.result.1.now c.cycle_lists-cycles.result.0.now c.cycle_lists-cycles.result.1.now c.bridges.result.now
    c.node_lists-nodes.ensures.cut c.node_lists-nodes.ensures.total c.bridges.ensures c.cycle_lists-cycles.ensures.cut c.cycle_lists-cycles.ensures.total
