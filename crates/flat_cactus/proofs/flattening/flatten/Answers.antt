use Rattle.std.proofs.Common.{◌∙◌, drop, length, ap}
use Rattle.std.specs.List.{flat_map}
use Rattle.cut_definitions.proofs.ListLaws.{popped_is}
use Rattle.flat_cactus.specs.Tasks.{pending, pendings, pending_sizes}
use Rattle.flat_cactus.proofs.Tasked.{pendings_push, entered_task}
use Rattle.flat_cactus.proofs.flattening.flatten.Goals as goal

pub enter-requires : goal.enter-requires
enter-requires c =
    let popped = ap pendings (popped_is c.walk.stack.items c.pop.new.self.items c.pop.result c.in-Some.task c.pop.ensures.items c.in-Some.is) ∙ pendings_push c.pop.new.self.items c.in-Some.task in
    (flat_map pending_sizes (pendings c.pop.new.self.items), ap (drop (length c.walk.flat.nodes)) c.deref.ensures.value ∙ c.walk.invariant.sizes ∙ ap (flat_map pending_sizes) popped)

pub walk-smaller : goal.walk-smaller
walk-smaller c =
    let popped = ap pendings (popped_is c.walk.stack.items c.pop.new.self.items c.pop.result c.in-Some.task c.pop.ensures.items c.in-Some.is) ∙ pendings_push c.pop.new.self.items c.in-Some.task in
    (entered_task c.in_ok-subtrees.subtrees.items c.walk.flat c.enter.new.flat (pending c.in-Some.task) (pendings c.walk.stack.items) (pendings c.pop.new.self.items) (pendings c.enter.new.stack.items) popped c.in_ok-enter.ensures.flat c.in_ok-enter.ensures.stack).2

pub walk-preserved : goal.walk-preserved
walk-preserved c =
    let popped = ap pendings (popped_is c.walk.stack.items c.pop.new.self.items c.pop.result c.in-Some.task c.pop.ensures.items c.in-Some.is) ∙ pendings_push c.pop.new.self.items c.in-Some.task in
    let done = entered_task c.in_ok-subtrees.subtrees.items c.walk.flat c.enter.new.flat (pending c.in-Some.task) (pendings c.walk.stack.items) (pendings c.pop.new.self.items) (pendings c.enter.new.stack.items) popped c.in_ok-enter.ensures.flat c.in_ok-enter.ensures.stack in
    record { whole = done.0 ∙ c.walk.invariant.whole; sizes = done.1 c.walk.invariant.sizes }
