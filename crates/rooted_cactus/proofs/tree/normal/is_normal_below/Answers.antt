use Rattle.std.proofs.Common.{◌∙◌, ◌++◌, ◌∷◌, [], ap, sym}
use Rattle.cut_definitions.proofs.ListLaws.{popped_is}
use Rattle.rooted_cactus.specs.Numbers.{seen}
use Rattle.rooted_cactus.proofs.Tallies.{fewer_inner}
use Rattle.rooted_cactus.proofs.Walks.{seen_push}
use Rattle.rooted_cactus.proofs.AllFine.{all_fine, begun_fine, taken_fine, not_fine}
use Rattle.rooted_cactus.proofs.tree.normal.is_normal_below.Goals as goal

pub walk-smaller : goal.walk-smaller
walk-smaller c =
    let left = c.pop.new.self.items in
    let top = ap seen (popped_is c.walk.stack.items left c.pop.result c.in-Some.node c.pop.ensures.items c.in-Some.is) ∙ seen_push left c.in-Some.node in
    fewer_inner (seen left) (seen c.walk.stack.items) _ c.in-Some.node.now top c.in_ok-stack_inner.ensures

pub walk-init : goal.walk-init
walk-init c = ap (λ l. all_fine (seen l)) (c.in_ok-push.ensures.items ∙ ap (λ l. l ++ c.args.root ∷ []) c.new-stack.ensures.items) ∙ begun_fine c.args.root.now

pub walk-preserved : goal.walk-preserved
walk-preserved c =
    let left = c.pop.new.self.items in
    let top = ap seen (popped_is c.walk.stack.items left c.pop.result c.in-Some.node c.pop.ensures.items c.in-Some.is) ∙ seen_push left c.in-Some.node in
    sym (taken_fine (seen left) (seen c.walk.stack.items) _ c.in-Some.node.now top c.in_ok-stack_inner.ensures (sym c.blocks_are_placed.ensures ∙ c.if-not-blocks_are_placed.false)) ∙ c.walk.invariant

pub returns-then-not-blocks_are_placed : goal.returns-then-not-blocks_are_placed
returns-then-not-blocks_are_placed c =
    let left = c.pop.new.self.items in
    let top = ap seen (popped_is c.walk.stack.items left c.pop.result c.in-Some.node c.pop.ensures.items c.in-Some.is) ∙ seen_push left c.in-Some.node in
    sym (not_fine (seen left) (seen c.walk.stack.items) c.in-Some.node.now top (sym c.blocks_are_placed.ensures ∙ c.if-not-blocks_are_placed.true)) ∙ c.walk.invariant
