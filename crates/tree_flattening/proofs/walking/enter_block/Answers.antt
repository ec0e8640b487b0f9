use Rattle.std.proofs.Common.{ap, arith}
use Rattle.std.specs.Prelude.{slice_index}
use Rattle.tree_flattening.specs.Arranged.{plan_of, run_list}
use Rattle.tree_flattening.proofs.Weighing.{first_known, known_in}
use Rattle.tree_flattening.proofs.walking.enter_block.Goals as goal

pub enter_node-requires-clause-within : goal.enter_node-requires-clause-within
enter_node-requires-clause-within c =
    omega (arith, first_known (plan_of c.args.plan.now) c.args.head c.requires.plan c.requires.within, c.at.ensures, ap (λ l. slice_index l 0) c.run-run.ensures.run)

pub add_cycle-requires-clause-known : goal.add_cycle-requires-clause-known
add_cycle-requires-clause-known c = known_in (plan_of c.args.plan.now) c.args.head _ (run_list c.run-run.result) c.requires.plan c.requires.within c.requires.known c.run-run.ensures.run
