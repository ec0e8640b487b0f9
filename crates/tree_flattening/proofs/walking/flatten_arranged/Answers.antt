use Rattle.std.proofs.Common.{◌∙◌, ap}
use Rattle.rooted_cactus.specs.Entries.{top_first}
use Rattle.tree_flattening.specs.Arranged.{plan_of}
use Rattle.tree_flattening.specs.Walked.{task_gained}
use Rattle.tree_flattening.proofs.Entering.{entered_drawn}
use Rattle.tree_flattening.proofs.Weighing.{left_known, left_lighter, popped_top, taken_known}
use Rattle.tree_flattening.proofs.walking.flatten_arranged.Goals as goal

pub enter-requires-clause-within : goal.enter-requires-clause-within
enter-requires-clause-within c =
    let popped = popped_top c.walk.stack.items c.pop.new.self.items c.pop.result c.in-Some.task c.pop.ensures.items c.in-Some.is in
    taken_known (plan_of c.args.plan.now) c.in-Some.task (top_first c.walk.stack.items) (top_first c.pop.new.self.items) c.walk.invariant.within popped

pub walk-smaller : goal.walk-smaller
walk-smaller c =
    let popped = popped_top c.walk.stack.items c.pop.new.self.items c.pop.result c.in-Some.task c.pop.ensures.items c.in-Some.is in
    left_lighter (plan_of c.args.plan.now) c.in_ok-sizes.sizes.items _ c.in-Some.task (top_first c.walk.stack.items) (top_first c.pop.new.self.items) (top_first c.enter.new.stack.items)
    c.requires.plan c.in_ok-sizes.ensures c.walk.invariant.within popped c.in_ok-enter.ensures.stack

pub walk-preserved : goal.walk-preserved
walk-preserved c =
    let p = plan_of c.args.plan.now in
    let table = c.in_ok-sizes.sizes.items in
    let t = c.in-Some.task in
    let before = top_first c.walk.stack.items in
    let rest = top_first c.pop.new.self.items in
    let after = top_first c.enter.new.stack.items in
    let popped = popped_top c.walk.stack.items c.pop.new.self.items c.pop.result t c.pop.ensures.items c.in-Some.is in
    record {
      within = left_known p _ t before rest after c.requires.plan c.walk.invariant.within popped c.in_ok-enter.ensures.stack;
      whole = λ node block drawn.
          entered_drawn p node block c.requires.plan drawn table c.in_ok-sizes.ensures c.walk.flat c.enter.new.flat t before rest after
          (taken_known p t before rest c.walk.invariant.within popped) popped
          (c.in_ok-enter.ensures.flat ∙ ap (λ l. task_gained p l c.walk.flat t) c.deref.ensures.value) c.in_ok-enter.ensures.stack
          ∙ c.walk.invariant.whole node block drawn;
    }
