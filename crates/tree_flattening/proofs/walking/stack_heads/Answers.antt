use Rattle.std.proofs.Common.{◌∙◌, ◌-◌, ◌<◌, length, ap, arith}
use Rattle.std.proofs.lemmas.List.{get_or_default}
use Rattle.rooted_cactus.specs.Entries.{top_first}
use Rattle.rooted_cactus.proofs.Entries.{top_push}
use Rattle.flat_cactus.proofs.Tasked.{stacked_map}
use Rattle.tree_flattening.specs.Walked.{hang}
use Rattle.tree_flattening.proofs.walking.stack_heads.Goals as goal

pub back-preserved : goal.back-preserved
back-preserved c =
    let few : c.back.i - 1 < length c.args.heads.now = omega (arith, c.back.invariant.within) in
    record {
      within = omega (arith, c.back.invariant.within);
      stacked = stacked_map (hang c.args.up) c.args.heads.now c.back.i _ (top_first c.back.stack.items) _ _ (omega arith) c.back.invariant.within
          (get_or_default c.args.heads.now (c.back.i - 1) _ _ few) c.back.invariant.stacked
          (ap top_first c.in_ok-push.ensures.items ∙ top_push c.back.stack.items _);
    }
