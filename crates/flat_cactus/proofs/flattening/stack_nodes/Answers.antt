use Rattle.std.proofs.Common.{◌∙◌, ◌-◌, ap, sym, arith}
use Rattle.std.proofs.lemmas.Option.{get_or_from_slice_get}
use Rattle.rooted_cactus.specs.Trees.{nodes_in}
use Rattle.flat_cactus.specs.Tasks.{node, pendings}
use Rattle.flat_cactus.proofs.Tasked.{pendings_push, stacked_map}
use Rattle.flat_cactus.proofs.flattening.stack_nodes.Goals as goal

pub back-preserved : goal.back-preserved
back-preserved c = record {
  within = omega (arith, c.back.invariant.within);
  stacked = stacked_map node (nodes_in c.args.nodes.now) c.back.i c.at.result.now (pendings c.back.stack.items) _ _ (omega arith) c.back.invariant.within
      (sym (get_or_from_slice_get (nodes_in c.args.nodes.now) (c.back.i - 1) c.at.result.now c.at.result.now c.at.ensures)) c.back.invariant.stacked
      (ap pendings c.in_ok-push.ensures.items ∙ pendings_push c.back.stack.items _);
}
