use Rattle.std.proofs.Common.{refl}
use Rattle.rooted_cactus.specs.Trees.{nodes_in}
use Rattle.tree_tests.proofs.Sketched.{closed_entered, closed_wide, cut_off}
use Rattle.tree_tests.proofs.trees.close_block.Goals as goal

pub returns-clause-entered : goal.returns-clause-entered
returns-clause-entered c =
    let whole = cut_off (nodes_in c.args.trees.now) (nodes_in c.split_off.new.self) (nodes_in c.pop.new.self) (nodes_in c.in_ok-nodes.nodes) _ c.pop.result c.unwrap-upper.result c.in_ok-nodes.ensures.front c.in_ok-nodes.ensures.back c.pop.ensures.items c.unwrap-upper.ensures in
    closed_entered (nodes_in c.args.trees.now) (nodes_in c.pop.new.self) (nodes_in c.in_ok-nodes.nodes) (nodes_in c.push-2.new.self) c.unwrap-upper.result _ c.in_ok-block.block whole c.in_ok-push-2.ensures.ok refl c.in_ok-push.ensures.ok c.in_ok-block.ensures.entered

pub returns-clause-wide : goal.returns-clause-wide
returns-clause-wide c =
    let whole = cut_off (nodes_in c.args.trees.now) (nodes_in c.split_off.new.self) (nodes_in c.pop.new.self) (nodes_in c.in_ok-nodes.nodes) _ c.pop.result c.unwrap-upper.result c.in_ok-nodes.ensures.front c.in_ok-nodes.ensures.back c.pop.ensures.items c.unwrap-upper.ensures in
    closed_wide (nodes_in c.args.trees.now) (nodes_in c.pop.new.self) (nodes_in c.in_ok-nodes.nodes) (nodes_in c.push-2.new.self) c.unwrap-upper.result _ c.in_ok-block.block whole c.in_ok-push-2.ensures.ok refl c.in_ok-push.ensures.ok c.in_ok-block.ensures.wide
