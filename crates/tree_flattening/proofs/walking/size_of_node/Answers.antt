use Rattle.std.proofs.Common.{◌<◌, sym, subst, get_or}
use Rattle.std.specs.List.{All}
use Rattle.tree_flattening.specs.Arranged.{plan_of, run_list}
use Rattle.tree_flattening.proofs.Weighing.{heads_known, known_in}
use Rattle.tree_flattening.proofs.walking.size_of_node.Goals as goal

pub run-requires-clause-within : goal.run-requires-clause-within
run-requires-clause-within c =
    let p = plan_of c.args.plan.now in
    subst (All (λ h. h < p.count)) (sym c.heads-head-items.ensures) (heads_known p c.args.node c.requires.plan c.requires.within) c.each.head-index 0 c.each-test.true

pub size_of_run-requires-clause-known : goal.size_of_run-requires-clause-known
size_of_run-requires-clause-known c =
    let p = plan_of c.args.plan.now in
    let h : get_or c.heads-head-items.result.now c.each.head-index 0 < p.count =
    subst (All (λ h. h < p.count)) (sym c.heads-head-items.ensures) (heads_known p c.args.node c.requires.plan c.requires.within) c.each.head-index 0 c.each-test.true in
    known_in p _ _ (run_list c.run.result) c.requires.plan h c.requires.known c.run.ensures.run
