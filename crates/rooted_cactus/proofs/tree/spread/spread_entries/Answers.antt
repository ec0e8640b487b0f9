use Rattle.std.proofs.Common.{false, List, ◌∙◌, ap, sym, subst}
use Rattle.cut_definitions.specs.Contraction.{lift}
use Rattle.cut_definitions.proofs.ListLaws.{popped_is}
use Rattle.rooted_cactus.specs.Entries.{top_first, Shows}
use Rattle.rooted_cactus.specs.declared.tree.Node.{Node}
use Rattle.rooted_cactus.specs.declared.tree.entries.ShedNode.{ShedNode}
use Rattle.rooted_cactus.proofs.Entries.{any_names, entered_one, fewer_left, first_entered, none_popped, top_push}
use Rattle.rooted_cactus.proofs.tree.spread.spread_entries.Goals as goal

pub walk-init : goal.walk-init
walk-init c = λ classes g. first_entered (lift classes) c.args.root c.new-entries.result.items c.new-stack.result.items c.push.new.self.items c.new-entries.ensures.items c.new-stack.ensures.items c.in_ok-push.ensures.items

pub walk-smaller : goal.walk-smaller
walk-smaller c =
    let x = c.in-Some.node in
    let left = c.pop.new.self.items in
    let popped = popped_is c.walk.stack.items left c.pop.result x c.pop.ensures.items c.in-Some.is in
    fewer_left false x (top_first c.in_ok-joints.joints.items) c.in_ok-joints.ensures.0 (top_first left) (top_first c.walk.stack.items) (top_first c.shed_blocks.new.stack.items) (ap top_first popped ∙ top_push left x) c.in_ok-joints.ensures.1 c.in_ok-joints.ensures.2

pub walk-preserved : goal.walk-preserved
walk-preserved c = λ classes g.
    let x = c.in-Some.node in
    let left = c.pop.new.self.items in
    let popped = popped_is c.walk.stack.items left c.pop.result x c.pop.ensures.items c.in-Some.is in
    let e : ShedNode = record { vertices = c.in_ok-vertices.vertices; joints = c.in_ok-joints.joints } in
    subst (λ (l : List ShedNode). Shows (lift classes) c.args.root l (top_first c.shed_blocks.new.stack.items)) (sym c.in_ok-push-2.ensures.items)
    (entered_one false (lift classes) c.args.root x c.walk.entries.items e c.in_ok-joints.ensures.0 (top_first left) (top_first c.walk.stack.items) (top_first c.shed_blocks.new.stack.items) (any_names (lift classes)) (c.walk.invariant classes g) (ap top_first popped ∙ top_push left x) (c.in_ok-vertices.ensures classes g) c.in_ok-joints.ensures.1 c.in_ok-joints.ensures.2)

pub walk-smaller-in_ok-push-2 : goal.walk-smaller-in_ok-push-2
walk-smaller-in_ok-push-2 c =
    let x = c.in-Some.node in
    let left = c.pop.new.self.items in
    let popped = popped_is c.walk.stack.items left c.pop.result x c.pop.ensures.items c.in-Some.is in
    fewer_left false x (top_first c.in_ok-joints.joints.items) c.in_ok-joints.ensures.0 (top_first left) (top_first c.walk.stack.items) (top_first c.shed_blocks.new.stack.items) (ap top_first popped ∙ top_push left x) c.in_ok-joints.ensures.1 c.in_ok-joints.ensures.2

pub walk-preserved-in_ok-push-2 : goal.walk-preserved-in_ok-push-2
walk-preserved-in_ok-push-2 c = λ classes g.
    let x = c.in-Some.node in
    let left = c.pop.new.self.items in
    let popped = popped_is c.walk.stack.items left c.pop.result x c.pop.ensures.items c.in-Some.is in
    let e : ShedNode = record { vertices = c.in_ok-vertices.vertices; joints = c.in_ok-joints.joints } in
    subst (λ (l : List ShedNode). Shows (lift classes) c.args.root l (top_first c.shed_blocks.new.stack.items)) (sym c.in_ok-push-2.ensures.items)
    (entered_one false (lift classes) c.args.root x c.walk.entries.items e c.in_ok-joints.ensures.0 (top_first left) (top_first c.walk.stack.items) (top_first c.shed_blocks.new.stack.items) (any_names (lift classes)) (c.walk.invariant classes g) (ap top_first popped ∙ top_push left x) (c.in_ok-vertices.ensures classes g) c.in_ok-joints.ensures.1 c.in_ok-joints.ensures.2)

pub returns : goal.returns
returns c = λ classes g.
    let none = none_popped c.walk.stack.items c.walk.stack.len c.pop.result c.walk.stack.ok.0 c.pop.ensures.variant c.in_default.not-Some in
    subst (λ (l : List Node). Shows (lift classes) c.args.root c.walk.entries.items (top_first l)) none (c.walk.invariant classes g)
