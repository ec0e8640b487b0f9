use Rattle.std.proofs.Common.{◌≡◌, [], ◌∷◌, List, length, drop, ◌∙◌, ap, sym, refl, arith}
use Rattle.std.proofs.lemmas.List.{length-append, length-drop}
use Rattle.cut_definitions.proofs.ListLaws.{popped_is}
use Rattle.rooted_cactus.specs.Entries.{top_first, used, wanted, all_drawn}
use Rattle.rooted_cactus.proofs.Entries.{dropped_more, top_push, top_length, none_popped}
use Rattle.rooted_cactus.proofs.Makes.{blocks_none, blocks_one, blocks_all}
use Rattle.rooted_cactus.specs.declared.tree.entries.Joint.{Joint}
use Rattle.rooted_cactus.proofs.tree.put.draw_blocks.Goals as goal

pub draw-init : goal.draw-init
draw-init g c = record {
  enough = c.requires.enough;
  blocks = λ sets rs may a. blocks_none sets (g.M.Maker.node_is sets) (g.M.Maker.block_is sets) rs (top_first c.args.joints.items) c.reserve_exact.new.self.items (top_first c.args.stack.now.items) (c.reserve_exact.ensures.items ∙ c.requires.empty) a;
  stack = refl;
}

pub draw_block-requires : goal.draw_block-requires
draw_block-requires g c =
    let left = c.pop.new.self.items in
    let popped = popped_is c.draw.joints.items left c.pop.result c.in-Some.joint c.pop.ensures.items c.in-Some.is in
    let top : top_first c.draw.joints.items ≡ c.in-Some.joint ∷ top_first left = ap top_first popped ∙ top_push left c.in-Some.joint in
    omega (arith, ap wanted top, c.draw.invariant.enough)

pub draw-smaller : goal.draw-smaller
draw-smaller g c =
    let popped = popped_is c.draw.joints.items c.pop.new.self.items c.pop.result c.in-Some.joint c.pop.ensures.items c.in-Some.is in
    omega (arith, ap length popped, length-append c.pop.new.self.items (c.in-Some.joint ∷ []))

pub draw-preserved : goal.draw-preserved
draw-preserved g c =
    let joint = c.in-Some.joint in
    let left = c.pop.new.self.items in
    let before = top_first c.draw.stack.items in
    let after = top_first c.draw_block.new.stack.items in
    let popped = popped_is c.draw.joints.items left c.pop.result joint c.pop.ensures.items c.in-Some.is in
    let later = top_first left in
    let all = top_first c.draw.joints.items in
    let top : all ≡ joint ∷ later = ap top_first popped ∙ top_push left joint in
    record {
      enough = omega (arith, ap wanted top, c.draw.invariant.enough, ap length c.in_ok-block.ensures.stack, length-drop (used joint) before, top_length c.draw.stack.items, top_length c.draw_block.new.stack.items);
      blocks = λ sets rs may a. blocks_one sets (g.M.Maker.node_is sets) (g.M.Maker.block_is sets) (all_drawn sets (top_first c.args.joints.items) rs) all later joint c.draw.row.items c.push.new.self.items c.in_ok-block.block before after (c.draw.invariant.blocks sets rs may a) top c.in_ok-push.ensures.items c.in_ok-block.ensures.stack (λ ss b. c.in_ok-block.ensures.block sets ss may b);
      stack = dropped_more all later joint before after _ top c.in_ok-block.ensures.stack c.draw.invariant.stack;
    }

pub returns-clause-blocks : goal.returns-clause-blocks
returns-clause-blocks g c = λ sets rs may a.
    let none = none_popped c.draw.joints.items c.draw.joints.len c.pop.result c.draw.joints.ok.0 c.pop.ensures.variant c.in_default.not-Some in
    blocks_all sets (g.M.Maker.node_is sets) (g.M.Maker.block_is sets) (all_drawn sets (top_first c.args.joints.items) rs) (top_first c.draw.joints.items) c.draw.row.items (top_first c.draw.stack.items) (ap top_first none) (c.draw.invariant.blocks sets rs may a)

pub returns-clause-stack : goal.returns-clause-stack
returns-clause-stack g c =
    let none = none_popped c.draw.joints.items c.draw.joints.len c.pop.result c.draw.joints.ok.0 c.pop.ensures.variant c.in_default.not-Some in
    ap (λ (l : List Joint). drop (wanted (top_first l)) (top_first c.draw.stack.items)) (sym none) ∙ c.draw.invariant.stack
