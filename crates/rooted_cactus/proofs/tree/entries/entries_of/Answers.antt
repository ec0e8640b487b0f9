use Rattle.std.proofs.Common.{true, List, ◌∙◌, ap, sym, subst, refl}
use Rattle.cut_definitions.proofs.ListLaws.{popped_is}
use Rattle.rooted_cactus.specs.Trees.{vertices}
use Rattle.rooted_cactus.specs.Entries.{top_first, Shows, kept}
use Rattle.rooted_cactus.specs.declared.tree.Node.{Node}
use Rattle.rooted_cactus.specs.declared.tree.entries.ShedNode.{ShedNode}
use Rattle.rooted_cactus.proofs.Entries.{none_popped, own_names, top_push, entered_one, fewer_left, first_entered}
use Rattle.rooted_cactus.proofs.tree.entries.entries_of.Goals as goal

pub walk-init : goal.walk-init
walk-init c = first_entered kept c.args.root c.in_ok-entries.entries.items c.in_ok-stack.stack.items c.push.new.self.items c.in_ok-entries.ensures.items c.in_ok-stack.ensures.items c.in_ok-push.ensures.items

pub walk-smaller : goal.walk-smaller
walk-smaller c =
    let x = c.in-Some.node in
    let left = c.pop.new.self.items in
    let popped = popped_is c.walk.stack.items left c.pop.result x c.pop.ensures.items c.in-Some.is in
    fewer_left true x (top_first c.in_ok-joints.joints.items) c.in_ok-joints.ensures.0 (top_first left) (top_first c.walk.stack.items) (top_first c.shed_blocks.new.stack.items) (ap top_first popped ∙ top_push left x) c.in_ok-joints.ensures.1 c.in_ok-joints.ensures.2

pub walk-preserved : goal.walk-preserved
walk-preserved c =
    let x = c.in-Some.node in
    let left = c.pop.new.self.items in
    let popped = popped_is c.walk.stack.items left c.pop.result x c.pop.ensures.items c.in-Some.is in
    let e : ShedNode = record { vertices = vertices x; joints = c.in_ok-joints.joints } in
    subst (λ (l : List ShedNode). Shows kept c.args.root l (top_first c.shed_blocks.new.stack.items)) (sym c.in_ok-push-2.ensures.items)
    (entered_one true kept c.args.root x c.walk.entries.items e c.in_ok-joints.ensures.0 (top_first left) (top_first c.walk.stack.items) (top_first c.shed_blocks.new.stack.items) (own_names true) c.walk.invariant (ap top_first popped ∙ top_push left x) refl c.in_ok-joints.ensures.1 c.in_ok-joints.ensures.2)

pub returns : goal.returns
returns c =
    let none = none_popped c.walk.stack.items c.walk.stack.len c.pop.result c.walk.stack.ok.0 c.pop.ensures.variant c.in_default.not-Some in
    subst (λ (l : List Node). Shows kept c.args.root c.walk.entries.items (top_first l)) none c.walk.invariant
