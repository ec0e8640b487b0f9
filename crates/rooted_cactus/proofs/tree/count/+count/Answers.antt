use Rattle.std.proofs.Common.{length, ap, arith}
use Rattle.rooted_cactus.proofs.Orders.{entered_out, entered_bridge, entered_cycle}
use Rattle.rooted_cactus.proofs.tree.count.+count.Goals as goal

pub count_node-returns : goal.count_node-returns
count_node-returns t c =
    let whole = ap length (entered_out c.args.node.now) in
    omega (arith, whole)

pub count_block-returns-in-Bridge : goal.count_block-returns-in-Bridge
count_block-returns-in-Bridge t c = rw (c.in-Bridge.is, entered_bridge, ← c.deref.ensures) c.count_node.ensures

pub count_block-returns-in-Cycle : goal.count_block-returns-in-Cycle
count_block-returns-in-Cycle t c = rw (c.in-Cycle.is, entered_cycle) c.count_nodes.ensures
