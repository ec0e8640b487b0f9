use Rattle.std.proofs.Common.{arith, ◌+◌, ◌-◌, ◌∙◌}
use Rattle.std.specs.Prelude.{slice_index}
use Rattle.cactus_walk.specs.Repeats.{is_between}
use Rattle.rooted_cactus.proofs.Sizes.{hops_le, hops_step}
use Rattle.cactus_walk.proofs.Marked.{mark_added}
use Rattle.cactus_walk.proofs.walk.repeats.add_marks.Goals as goal

pub overflow_add-number : goal.overflow_add-number
overflow_add-number c =
    let s = c.args.sizes.now in
    let ends = c.nodes.invariant.ends in
    let step = hops_step s c.nodes.left c.nodes.number ends.0 c.nodes-test.true ends.2 in
    omega (arith, ends.1, hops_le s (c.nodes.left - 1) (c.nodes.number + slice_index s c.nodes.number) ends.0 step.1, c.well_formed)

pub nodes-preserved : goal.nodes-preserved
nodes-preserved c =
    let s = c.args.sizes.now in
    let ends = c.nodes.invariant.ends in
    let step = hops_step s c.nodes.left c.nodes.number ends.0 c.nodes-test.true ends.2 in
    record {
      ends = (ends.0, ends.1, step.1);
      appended = mark_added (is_between c.args.places.now c.args.entries.now) s c.nodes.repeats.items _ c.nodes.left c.nodes.number c.is_between.result c.nodes-test.true c.is_between.ensures c.in_ok-push.ensures.items ∙ c.nodes.invariant.appended;
    }
