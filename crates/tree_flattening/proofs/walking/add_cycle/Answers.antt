use Rattle.std.proofs.Common.{[], ◌∙◌, ◌+◌, ◌<◌, length, ap, arith, get_or}
use Rattle.std.specs.Prelude.{slice_index}
use Rattle.flat_cactus.proofs.Members.{member_added}
use Rattle.tree_flattening.specs.Arranged.{run_list}
use Rattle.tree_flattening.proofs.Entering.{checked, root_added, sum_more}
use Rattle.tree_flattening.proofs.walking.add_cycle.Goals as goal

pub members-init : goal.members-init
members-init c = record {
  flat = member_added c.args.flat.now c.push_cycle.new.self c.push_member.new.self [] c.args.up c.in_ok-push_cycle.ensures.ok c.in_ok-push_member.ensures.ok;
  root = omega (arith, c.nodes-root.ensures);
}

pub members-preserved : goal.members-preserved
members-preserved c =
    let run = run_list c.args.run in
    let few : c.members.i < length run = omega (arith, c.members-test.true, c.len-i-end.ensures) in
    record {
      flat = root_added c.args.sizes.now run c.members.i c.args.flat.now c.members.flat c.push_member-in-members.new.self c.args.up c.members.root few c.members.invariant.root c.members.invariant.flat c.in_ok-push_member-2.ensures.ok;
      root = checked c.checked_add.result _ _ c.in_ok-root.root c.checked_add.ensures c.in_ok-root.ensures.ok_part
          ∙ ap (λ k. c.members.root + get_or c.args.sizes.now k 0) c.at.ensures
          ∙ omega (arith, c.members.invariant.root, sum_more (slice_index c.args.sizes.now) run c.members.i 0 few);
    }
