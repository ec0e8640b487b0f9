use Rattle.std.proofs.Common.{false, List, ◌∙◌, ap, sym, subst}
use Rattle.cut_definitions.proofs.ListLaws.{popped_is}
use Rattle.rooted_cactus.specs.Entered.{renamed}
use Rattle.rooted_cactus.specs.Entries.{top_first, Shows}
use Rattle.rooted_cactus.specs.declared.tree.Node.{Node}
use Rattle.rooted_cactus.specs.declared.tree.entries.ShedNode.{ShedNode}
use Rattle.rooted_cactus.proofs.Entries.{any_names, entered_one, fewer_left, first_entered, none_popped, top_push}
use Rattle.rooted_cactus.proofs.tree.rename.renamed_entries.Goals as goal

pub walk-init : goal.walk-init
walk-init c = first_entered (renamed c.args.names.now) c.args.root c.new-entries.result.items c.new-stack.result.items c.push.new.self.items c.new-entries.ensures.items c.new-stack.ensures.items c.in_ok-push.ensures.items

pub walk-smaller : goal.walk-smaller
walk-smaller c =
    let x = c.in-Some.node in
    let left = c.pop.new.self.items in
    let popped = popped_is c.walk.stack.items left c.pop.result x c.pop.ensures.items c.in-Some.is in
    fewer_left false x (top_first c.in_ok-joints.joints.items) c.in_ok-joints.ensures.0 (top_first left) (top_first c.walk.stack.items) (top_first c.shed_blocks.new.stack.items) (ap top_first popped ∙ top_push left x) c.in_ok-joints.ensures.1 c.in_ok-joints.ensures.2

pub walk-preserved : goal.walk-preserved
walk-preserved c =
    let x = c.in-Some.node in
    let left = c.pop.new.self.items in
    let popped = popped_is c.walk.stack.items left c.pop.result x c.pop.ensures.items c.in-Some.is in
    let e : ShedNode = record { vertices = c.rename.new.self; joints = c.in_ok-joints.joints } in
    subst (λ (l : List ShedNode). Shows (renamed c.args.names.now) c.args.root l (top_first c.shed_blocks.new.stack.items)) (sym c.in_ok-push-2.ensures.items)
    (entered_one false (renamed c.args.names.now) c.args.root x c.walk.entries.items e c.in_ok-joints.ensures.0 (top_first left) (top_first c.walk.stack.items) (top_first c.shed_blocks.new.stack.items) (any_names (renamed c.args.names.now)) c.walk.invariant (ap top_first popped ∙ top_push left x) c.rename.ensures c.in_ok-joints.ensures.1 c.in_ok-joints.ensures.2)

pub returns : goal.returns
returns c =
    let none = none_popped c.walk.stack.items c.walk.stack.len c.pop.result c.walk.stack.ok.0 c.pop.ensures.variant c.in_default.not-Some in
    subst (λ (l : List Node). Shows (renamed c.args.names.now) c.args.root c.walk.entries.items (top_first l)) none c.walk.invariant
