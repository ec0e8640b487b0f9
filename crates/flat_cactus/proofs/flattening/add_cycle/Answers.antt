use Rattle.std.proofs.Common.{◌<◌, [], length, drop, ap, ◌∙◌, arith}
use Rattle.rooted_cactus.specs.Trees.{nodes_in}
use Rattle.flat_cactus.proofs.Members.{member_added, root_within, root_next, root_added}
use Rattle.flat_cactus.proofs.flattening.add_cycle.Goals as goal

pub members-init : goal.members-init
members-init c = record {
  flat = member_added c.args.flat.now c.push_cycle.new.self c.push_member.new.self [] c.args.up c.in_ok-push_cycle.ensures.ok c.in_ok-push_member.ensures.ok;
  root = omega (arith, c.nodes-root.ensures);
  rest = (c.requires.0, ap (λ k. drop k c.args.subtrees.now) c.nodes-root.ensures ∙ c.requires.1);
}

pub bounds-subtrees-root : goal.bounds-subtrees-root
bounds-subtrees-root c = (root_within c.args.subtrees.now c.members.root c.members._i (nodes_in c.args.nodes.now) (omega (arith, c.members-test.true, c.len-i-end.ensures)) c.members.invariant.rest).0

pub offset_bounds-subtrees-root : goal.offset_bounds-subtrees-root
offset_bounds-subtrees-root c =
    let w = root_within c.args.subtrees.now c.members.root c.members._i (nodes_in c.args.nodes.now) (omega (arith, c.members-test.true, c.len-i-end.ensures)) c.members.invariant.rest in
    omega (arith, w.0, c.well_formed)

pub overflow_add-root : goal.overflow_add-root
overflow_add-root c =
    let w = root_within c.args.subtrees.now c.members.root c.members._i (nodes_in c.args.nodes.now) (omega (arith, c.members-test.true, c.len-i-end.ensures)) c.members.invariant.rest in
    omega (arith, w.1, c.well_formed)

pub members-preserved : goal.members-preserved
members-preserved c =
    let xs = nodes_in c.args.nodes.now in
    let few : c.members._i < length xs = omega (arith, c.members-test.true, c.len-i-end.ensures) in
    let next = root_next c.args.subtrees.now c.members.root c.members._i xs (length c.args.flat.now.nodes) few c.members.invariant.rest c.members.invariant.root in
    record {
      flat = root_added c.args.subtrees.now c.members.root c.members._i xs c.args.flat.now c.members.flat c.push_member-in-members.new.self c.args.up few c.members.invariant.rest c.members.invariant.root c.members.invariant.flat c.in_ok-push_member-2.ensures.ok;
      root = next.0;
      rest = next.1;
    }
