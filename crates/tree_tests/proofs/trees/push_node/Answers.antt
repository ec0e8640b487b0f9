use Rattle.rooted_cactus.specs.Trees.{nodes_in}
use Rattle.tree_tests.proofs.Sketched.{node_entered, node_wide}
use Rattle.tree_tests.proofs.trees.push_node.Goals as goal

pub returns-clause-entered : goal.returns-clause-entered
returns-clause-entered c = node_entered (nodes_in c.args.trees.now) (nodes_in c.push.new.self) _ _ c.in_ok-push.ensures.ok c.in_ok-vertices.ensures c.new-blocks.ensures

pub returns-clause-wide : goal.returns-clause-wide
returns-clause-wide c = node_wide (nodes_in c.args.trees.now) (nodes_in c.push.new.self) _ c.in_ok-push.ensures.ok c.new-blocks.ensures
