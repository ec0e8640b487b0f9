use Rattle.std.proofs.Common.{◌∙◌, ap, sym, drop}
use Rattle.cut_definitions.proofs.ListLaws.{popped_is}
use Rattle.rooted_cactus.specs.Entries.{top_first}
use Rattle.rooted_cactus.proofs.Entries.{top_push}
use Rattle.rooted_cactus.proofs.Makes.{bridge_drawn}
use Rattle.rooted_cactus.proofs.tree.put.draw_bridge.Goals as goal

pub returns-clause-block : goal.returns-clause-block
returns-clause-block g c = λ sets rs a.
    let maker = g.M.Maker in
    let node = c.unwrap-node.result in
    let left = c.pop.new.self.items in
    let popped = popped_is c.args.stack.now.items left c.pop.result node c.pop.ensures.items c.unwrap-node.ensures in
    bridge_drawn (maker.node_is sets) (maker.block_is sets) c.bridge.result node (top_first left) (top_first c.args.stack.now.items) rs (ap top_first popped ∙ top_push left node) (c.bridge.ensures sets) a

pub returns-clause-stack : goal.returns-clause-stack
returns-clause-stack g c =
    let node = c.unwrap-node.result in
    let left = c.pop.new.self.items in
    let popped = popped_is c.args.stack.now.items left c.pop.result node c.pop.ensures.items c.unwrap-node.ensures in
    sym (ap (drop 1) (ap top_first popped ∙ top_push left node))
