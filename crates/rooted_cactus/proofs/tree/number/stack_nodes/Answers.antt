use Rattle.std.proofs.Common.{◌∙◌, ◌++◌, ap}
use Rattle.std.specs.List.{filter}
use Rattle.std.proofs.lemmas.List.{take_all}
use Rattle.rooted_cactus.specs.Numbers.{seen, is_inner}
use Rattle.rooted_cactus.proofs.Tallies.{inner_node}
use Rattle.rooted_cactus.proofs.tree.number.stack_nodes.Goals as goal

pub each_node-preserved : goal.each_node-preserved
each_node-preserved c = record {
  end = c.each_node.invariant.end;
  stacked = inner_node _ _ _ c.args.nodes.now c.each_node.i c.index-nodes-i.result c.in_ok-stack_node.ensures c.each_node-test.true c.index-nodes-i.is c.each_node.invariant.stacked;
}

pub returns : goal.returns
returns c = c.each_node.invariant.stacked ∙ ap (λ l. seen c.args.stack.now.items ++ filter is_inner l) (take_all c.each_node.i c.args.nodes.now c.each_node-test.false)
