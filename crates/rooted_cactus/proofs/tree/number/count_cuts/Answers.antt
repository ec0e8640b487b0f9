use Rattle.std.proofs.Common.{◌∙◌, ap, arith}
use Rattle.cut_definitions.proofs.ListLaws.{popped_is}
use Rattle.rooted_cactus.specs.Numbers.{seen}
use Rattle.rooted_cactus.proofs.Tallies.{fewer_inner, numbers_step, top_own}
use Rattle.rooted_cactus.proofs.Walks.{seen_push}
use Rattle.rooted_cactus.proofs.tree.number.count_cuts.Goals as goal

pub own_cuts-count-requires : goal.own_cuts-count-requires
own_cuts-count-requires c =
    let left = c.pop.new.self.items in
    let top = ap seen (popped_is c.walk.stack.items left c.pop.result c.in-Some.node c.pop.ensures.items c.in-Some.is) ∙ seen_push left c.in-Some.node in
    omega (arith, (top_own (seen left) (seen c.walk.stack.items) c.in-Some.node.now top).0, c.walk.invariant, c.requires)

pub overflow_add-count : goal.overflow_add-count
overflow_add-count c =
    let left = c.pop.new.self.items in
    let top = ap seen (popped_is c.walk.stack.items left c.pop.result c.in-Some.node c.pop.ensures.items c.in-Some.is) ∙ seen_push left c.in-Some.node in
    omega (arith, (top_own (seen left) (seen c.walk.stack.items) c.in-Some.node.now top).1, c.walk.invariant, c.requires, c.own_cuts-count.ensures)

pub walk-smaller : goal.walk-smaller
walk-smaller c =
    let left = c.pop.new.self.items in
    let top = ap seen (popped_is c.walk.stack.items left c.pop.result c.in-Some.node c.pop.ensures.items c.in-Some.is) ∙ seen_push left c.in-Some.node in
    fewer_inner (seen left) (seen c.walk.stack.items) _ c.in-Some.node.now top c.in_ok-stack_inner.ensures

pub walk-preserved : goal.walk-preserved
walk-preserved c =
    let left = c.pop.new.self.items in
    let top = ap seen (popped_is c.walk.stack.items left c.pop.result c.in-Some.node c.pop.ensures.items c.in-Some.is) ∙ seen_push left c.in-Some.node in
    omega (arith, numbers_step (seen left) (seen c.walk.stack.items) (seen c.stack_inner.new.stack.items) c.in-Some.node.now top c.in_ok-stack_inner.ensures, c.walk.invariant, c.own_cuts-count.ensures)
