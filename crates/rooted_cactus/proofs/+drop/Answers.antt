use Rattle.std.proofs.Common.{ap, arith}
use Rattle.rooted_cactus.specs.Trees.{nodes_in}
use Rattle.rooted_cactus.proofs.Weights.{bridge_step, node_step_less, cycle_step, nodes_weight}
use Rattle.rooted_cactus.proofs.Depths.{shallower_children, shallower_moved}
use Rattle.rooted_cactus.specs.declared.tree.Children.{out-roll-Children}
use Rattle.rooted_cactus.proofs.+drop.Goals as goal

pub tree::Blocks::drop-loop-block-smaller-in-Bridge : goal.tree::Blocks::drop-loop-block-smaller-in-Bridge
tree::Blocks::drop-loop-block-smaller-in-Bridge t c =
    bridge_step _ _ _ _ _ _ c.into_inner-node.result c.in-Some.ensures.items c.in-Bridge.is c.into_inner-node.ensures c.append-moved.ensures.items

pub tree::Blocks::drop-loop-node-preserved : goal.tree::Blocks::drop-loop-node-preserved
tree::Blocks::drop-loop-node-preserved t c =
    let less = node_step_less _ c.loop-node.items.items c.append-moved-in-Some-pop.new.self.items (nodes_in c.loop-node.nodes) c.pop-in-loop-node.new.self.items c.in-Some-pop.node c.in-Some-pop.ensures.items c.append-moved-in-Some-pop.ensures.items in
    let popped = c.in-Some-pop.ensures.items in
    let rest = c.pop-in-loop-node.new.self in
    let children = shallower_children c.loop-node.nodes rest c.in-Some-pop.node popped in
    let moved = shallower_moved _ c.loop-node.nodes rest.items c.in-Some-pop.node c.loop-node.items.items c.append-moved-in-Some-pop.new.self.items popped c.append-moved-in-Some-pop.ensures.items in
    let rolled = ap (λ o. nodes_weight o.items.items) (out-roll-Children record { items = rest }) in
    (omega arith, omega arith, omega arith, omega arith)

pub tree::Blocks::drop-loop-block-smaller : goal.tree::Blocks::drop-loop-block-smaller
tree::Blocks::drop-loop-block-smaller t c =
    cycle_step _ _ c.loop-node.items.items _ _ (nodes_in c.loop-node.nodes) c.in-Some.ensures.items c.in-Cycle.is c.loop-node.invariant.3
