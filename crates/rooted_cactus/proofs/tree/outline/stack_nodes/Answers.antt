use Rattle.std.proofs.Common.{◌∙◌, ap, arith}
use Rattle.rooted_cactus.specs.Heads.{entries_waiting}
use Rattle.rooted_cactus.proofs.Stacked.{waiting_push, stacked_node}
use Rattle.rooted_cactus.proofs.tree.outline.stack_nodes.Goals as goal

pub back-preserved : goal.back-preserved
back-preserved c = record {
  within = omega (arith, c.back.invariant.within);
  length = omega (arith, c.back.invariant.length, c.in_ok-push.ensures.len, c.back-test.true);
  entries = stacked_node c.args.nodes.now c.back.i c.head_at.result c.index-nodes-i.result (entries_waiting c.back.stack.items) _ _ (omega (arith, c.back-test.true)) c.back.invariant.within c.index-nodes-i.is
      c.head_at.ensures.first c.head_at.ensures.others c.back.invariant.entries (ap entries_waiting c.in_ok-push.ensures.items ∙ waiting_push c.back.stack.items _);
}
