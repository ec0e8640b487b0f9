use Rattle.std.proofs.Common.{◌∙◌, ◌-◌, ap, sym, arith}
use Rattle.std.proofs.lemmas.Option.{get_or_from_slice_get}
use Rattle.rooted_cactus.specs.Trees.{blocks_in}
use Rattle.flat_cactus.specs.Tasks.{block, pendings}
use Rattle.flat_cactus.proofs.Tasked.{pendings_push, stacked_map}
use Rattle.flat_cactus.proofs.flattening.stack_blocks.Goals as goal

pub back-preserved : goal.back-preserved
back-preserved c = record {
  within = omega (arith, c.back.invariant.within);
  stacked = stacked_map (block c.args.up) (blocks_in c.args.items.now) c.back.i c.at.result.now (pendings c.back.stack.items) _ _ (omega arith) c.back.invariant.within
      (sym (get_or_from_slice_get (blocks_in c.args.items.now) (c.back.i - 1) c.at.result.now c.at.result.now c.at.ensures)) c.back.invariant.stacked
      (ap pendings c.in_ok-push.ensures.items ∙ pendings_push c.back.stack.items _);
}
