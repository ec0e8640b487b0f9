use Rattle.std.proofs.Common.{arith, ◌+◌, ◌-◌}
use Rattle.std.specs.Prelude.{slice_index}
use Rattle.rooted_cactus.proofs.Sizes.{hops_le, hops_step}
use Rattle.rooted_cactus.proofs.tree.outline.end_of.Goals as goal

pub overflow_add-to : goal.overflow_add-to
overflow_add-to c =
    let s = c.args.sizes.now in
    let ends = c.subtrees.invariant.ends in
    let step = hops_step s c.subtrees.left c.subtrees.to ends.0 c.subtrees-test.true ends.2 in
    omega (arith, ends.1, hops_le s (c.subtrees.left - 1) (c.subtrees.to + slice_index s c.subtrees.to) ends.0 step.1, c.well_formed)
