use Rattle.std.proofs.Common.{arith, ◌+◌, ◌-◌, ◌∙◌}
use Rattle.std.specs.Prelude.{slice_index}
use Rattle.rooted_cactus.proofs.Sizes.{hops_le, hops_step}
use Rattle.cactus_walk.proofs.Bordered.{border_added}
use Rattle.cactus_walk.proofs.walk.borders.add_block.Goals as goal

pub overflow_add-number : goal.overflow_add-number
overflow_add-number c =
    let s = c.args.sizes.now in
    let ends = c.nodes.invariant.ends in
    let step = hops_step s c.nodes.following c.nodes.number ends.0 c.nodes-test.true ends.2 in
    omega (arith, ends.1, hops_le s (c.nodes.following - 1) (c.nodes.number + slice_index s c.nodes.number) ends.0 step.1, c.well_formed)

pub nodes-preserved : goal.nodes-preserved
nodes-preserved c =
    let s = c.args.sizes.now in
    let ends = c.nodes.invariant.ends in
    let step = hops_step s c.nodes.following c.nodes.number ends.0 c.nodes-test.true ends.2 in
    record {
      ends = (ends.0, ends.1, step.1);
      appended = border_added s c.args.places.now c.nodes.borders.items _ c.nodes.following c.nodes.number c.nodes-test.true c.in_ok-push.ensures.items ∙ c.nodes.invariant.appended;
    }
