use Rattle.std.proofs.Common.{[], ◌∷◌, ◌≡◌, ◌==◌, ◌∙◌, ap, length, sym, refl}
use Rattle.std.proofs.lemmas.Bool.{and_parts, eqb-true}
use Rattle.rooted_cactus.specs.declared.tree.Node.{Node}
use Rattle.rooted_cactus.specs.Entries.{top_first}
use Rattle.rooted_cactus.specs.Trees.{blocks, nodes_in}
use Rattle.rooted_cactus.proofs.Entries.{top_push, bridge_shed, leaf_shed, cycle_shed, none_in}
use Rattle.rooted_cactus.proofs.tree.entries.shed_block.Goals as goal

pub returns-then-stays : goal.returns-then-stays
returns-then-stays c =
    let parts = and_parts c.args.leaves_stay (length (blocks c.deref.result.now) == 0) (sym c.stays.ensures ∙ c.if-stays.true) in
    let none : length (blocks c.in-Bridge.node.value) ≡ 0 = ap (λ (x : Node). length (blocks x)) (sym c.deref.ensures) ∙ eqb-true (length (blocks c.deref.result.now)) 0 parts.1 in
    ([], leaf_shed c.args.leaves_stay c.args.block c.in-Bridge.node parts.0 c.in-Bridge.is (none_in (blocks c.in-Bridge.node.value) none), refl)

pub returns-in_ok-push-in-Bridge : goal.returns-in_ok-push-in-Bridge
returns-in_ok-push-in-Bridge c =
    let before = top_first c.args.stack.now.items in (
      c.in-Bridge.node.value ∷ [],
      bridge_shed c.args.leaves_stay c.args.block c.in-Bridge.node _ c.in-Bridge.is,
      ap top_first c.in_ok-push-in-Bridge.ensures.items ∙ top_push c.args.stack.now.items c.replace.result ∙ ap (λ x. x ∷ before) (c.replace.ensures.value ∙ c.deref_mut.ensures.value),
    )

pub returns-in_ok-shed_nodes-in-Cycle : goal.returns-in_ok-shed_nodes-in-Cycle
returns-in_ok-shed_nodes-in-Cycle c = (nodes_in c.in-Cycle.nodes, cycle_shed c.args.leaves_stay c.args.block c.in-Cycle.nodes _ c.in-Cycle.is c.len-count.ensures, c.in_ok-shed_nodes-in-Cycle.ensures)
