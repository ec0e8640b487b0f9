use Rattle.std.proofs.Common.{[], ◌∷◌, ◌∙◌, length, ap, refl, arith}
use Rattle.std.proofs.lemmas.List.{length-append}
use Rattle.cut_definitions.proofs.ListLaws.{popped_is}
use Rattle.rooted_cactus.specs.Trees.{blocks_in}
use Rattle.rooted_cactus.specs.Entries.{top_first}
use Rattle.rooted_cactus.proofs.Entries.{top_push, none_popped, shed_none, shed_one, shed_all}
use Rattle.rooted_cactus.proofs.tree.entries.shed_blocks.Goals as goal

pub back-init : goal.back-init
back-init c = shed_none c.args.leaves_stay (blocks_in c.args.blocks) (top_first c.in_ok-joints.joints.items) (top_first c.args.stack.now.items) (ap top_first c.in_ok-joints.ensures.items)

pub back-smaller : goal.back-smaller
back-smaller c =
    let popped = popped_is (blocks_in c.back.blocks) (blocks_in c.pop.new.self) c.pop.result c.in-Some.block c.pop.ensures.items c.in-Some.is in
    omega (arith, ap length popped, length-append (blocks_in c.pop.new.self) (c.in-Some.block ∷ []))

pub back-preserved : goal.back-preserved
back-preserved c =
    let popped = popped_is (blocks_in c.back.blocks) (blocks_in c.pop.new.self) c.pop.result c.in-Some.block c.pop.ensures.items c.in-Some.is in
    let shed = c.in_ok-joint.ensures in
    shed_one c.args.leaves_stay (blocks_in c.args.blocks) (blocks_in c.back.blocks) (blocks_in c.pop.new.self) c.in-Some.block (top_first c.back.joints.items) (top_first c.push.new.self.items) c.in_ok-joint.joint shed.0 (top_first c.args.stack.now.items) (top_first c.back.stack.items) (top_first c.shed_block.new.stack.items)
    c.back.invariant popped (ap top_first c.in_ok-push.ensures.items ∙ top_push c.back.joints.items c.in_ok-joint.joint) shed.1 shed.2

pub returns : goal.returns
returns c =
    let none = none_popped (blocks_in c.back.blocks) (length (blocks_in c.back.blocks)) c.pop.result refl c.pop.ensures.some c.in_default.not-Some in
    shed_all c.args.leaves_stay (blocks_in c.args.blocks) (blocks_in c.back.blocks) (top_first c.back.joints.items) (top_first c.args.stack.now.items) (top_first c.back.stack.items) c.back.invariant none
