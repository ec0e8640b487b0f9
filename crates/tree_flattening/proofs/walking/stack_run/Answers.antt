use Rattle.std.proofs.Common.{◌∙◌, ◌-◌, ◌<◌, length, ap, arith}
use Rattle.std.proofs.lemmas.List.{get_or_default}
use Rattle.rooted_cactus.specs.Entries.{top_first}
use Rattle.rooted_cactus.proofs.Entries.{top_push}
use Rattle.flat_cactus.proofs.Tasked.{stacked_map}
use Rattle.tree_flattening.specs.Arranged.{run_list}
use Rattle.tree_flattening.specs.declared.walking.Task.TheVariants.{Enter}
use Rattle.tree_flattening.proofs.walking.stack_run.Goals as goal

pub back-preserved : goal.back-preserved
back-preserved c =
    let run = run_list c.args.run in
    let few : c.back.i - 1 < length run = omega (arith, c.back.invariant.within) in
    record {
      within = omega (arith, c.back.invariant.within);
      stacked = stacked_map Enter run c.back.i c.at.result (top_first c.back.stack.items) _ _ (omega arith) c.back.invariant.within
          (c.at.ensures ∙ get_or_default run (c.back.i - 1) 0 c.at.result few) c.back.invariant.stacked
          (ap top_first c.in_ok-push.ensures.items ∙ top_push c.back.stack.items _);
    }
