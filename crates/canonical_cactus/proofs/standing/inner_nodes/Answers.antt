use Rattle.std.proofs.Common.{◌∙◌, ◌++◌, ◌∷◌, [], ap}
use Rattle.cut_definitions.proofs.ListLaws.{popped_is}
use Rattle.rooted_cactus.specs.Numbers.{seen}
use Rattle.rooted_cactus.proofs.Entries.{none_popped}
use Rattle.rooted_cactus.proofs.Tallies.{fewer_inner}
use Rattle.rooted_cactus.proofs.Walks.{seen_push}
use Rattle.canonical_cactus.proofs.Inner.{begun, entered, listed}
use Rattle.canonical_cactus.proofs.standing.inner_nodes.Goals as goal

pub walk-init : goal.walk-init
walk-init c = begun c.args.root.now (seen c.in_ok-nodes.nodes.items) _ (ap seen c.in_ok-nodes.ensures.items) (ap seen (c.in_ok-push.ensures.items ∙ ap (λ l. l ++ c.args.root ∷ []) c.in_ok-stack.ensures.items))

pub walk-smaller : goal.walk-smaller
walk-smaller c =
    let left = c.pop.new.self.items in
    let top = ap seen (popped_is c.walk.stack.items left c.pop.result c.in-Some.node c.pop.ensures.items c.in-Some.is) ∙ seen_push left c.in-Some.node in
    fewer_inner (seen left) (seen c.walk.stack.items) _ c.in-Some.node.now top c.in_ok-stack_inner.ensures

pub walk-preserved : goal.walk-preserved
walk-preserved c =
    let left = c.pop.new.self.items in
    let top = ap seen (popped_is c.walk.stack.items left c.pop.result c.in-Some.node c.pop.ensures.items c.in-Some.is) ∙ seen_push left c.in-Some.node in
    entered c.args.root.now c.in-Some.node.now (seen c.walk.nodes.items) _ (seen left) (seen c.walk.stack.items) _ c.walk.invariant top
    (ap seen c.in_ok-push-2.ensures.items ∙ seen_push c.walk.nodes.items c.in-Some.node) c.in_ok-stack_inner.ensures

pub returns : goal.returns
returns c =
    let none = none_popped c.walk.stack.items c.walk.stack.len c.pop.result c.walk.stack.ok.0 c.pop.ensures.variant c.in_default.not-Some in
    listed c.args.root.now (seen c.walk.nodes.items) (seen c.walk.stack.items) c.walk.invariant (ap seen none)
