use Rattle.std.proofs.Common.{◌∙◌, ap, sym}
use Rattle.std.specs.List.{list_all}
use Rattle.std.proofs.lemmas.Bool.{not-true, not-false}
use Rattle.cut_definitions.proofs.ListLaws.{popped_is}
use Rattle.rooted_cactus.specs.Numbers.{seen}
use Rattle.rooted_cactus.proofs.Entries.{none_popped}
use Rattle.rooted_cactus.proofs.Walks.{seen_push}
use Rattle.canonical_cactus.specs.Inner.{leasts_of, stands}
use Rattle.canonical_cactus.proofs.Inner.{rising_begun, rising_turn, rising_on, falls}
use Rattle.canonical_cactus.proofs.standing.all_stand.Goals as goal

pub up-init : goal.up-init
up-init c = rising_begun (seen c.args.nodes.items) c.in_ok-known.known.items c.requires c.in_ok-known.ensures.items

pub draw_node-standing-requires : goal.draw_node-standing-requires
draw_node-standing-requires c =
    let left = c.pop.new.self.items in
    let top = ap seen (popped_is c.up.nodes.items left c.pop.result c.in-Some.node c.pop.ensures.items c.in-Some.is) ∙ seen_push left c.in-Some.node in
    let turn = rising_turn _ (seen c.up.nodes.items) (seen left) c.up.known.items c.in-Some.node.now c.up.invariant top in
    (leasts_of turn.rest, turn.least)

pub returns-then-not-standing : goal.returns-then-not-standing
returns-then-not-standing c =
    let left = c.pop.new.self.items in
    let top = ap seen (popped_is c.up.nodes.items left c.pop.result c.in-Some.node c.pop.ensures.items c.in-Some.is) ∙ seen_push left c.in-Some.node in
    let turn = rising_turn _ (seen c.up.nodes.items) (seen left) c.up.known.items c.in-Some.node.now c.up.invariant top in
    falls _ (seen left) c.up.known.items c.in-Some.node.now turn (sym c.draw_node-standing.ensures.in_order ∙ not-true _ c.if-not-standing.true)

pub up-preserved : goal.up-preserved
up-preserved c =
    let left = c.pop.new.self.items in
    let top = ap seen (popped_is c.up.nodes.items left c.pop.result c.in-Some.node c.pop.ensures.items c.in-Some.is) ∙ seen_push left c.in-Some.node in
    let turn = rising_turn _ (seen c.up.nodes.items) (seen left) c.up.known.items c.in-Some.node.now c.up.invariant top in
    rising_on _ (seen left) c.up.known.items c.draw_node-standing.new.known.items _ c.draw_node-standing.result.least c.in-Some.node.now turn (c.draw_node-standing.ensures.known _ turn.least) c.draw_node-standing.ensures.least
    (sym c.draw_node-standing.ensures.in_order ∙ not-false _ c.if-not-standing.false) c.in_ok-push.ensures.items

pub returns : goal.returns
returns c =
    let none = none_popped c.up.nodes.items c.up.nodes.len c.pop.result c.up.nodes.ok.0 c.pop.ensures.variant c.in_default.not-Some in
    sym (c.up.invariant.stand ∙ ap (λ l. list_all stands (seen l)) none)
