use Rattle.std.proofs.Common.{[], ◌∷◌, ◌++◌, length, ◌∙◌, ap, sym, refl, arith}
use Rattle.std.proofs.lemmas.List.{length-append}
use Rattle.cut_definitions.proofs.ListLaws.{popped_is}
use Rattle.rooted_cactus.specs.Trees.{nodes_in}
use Rattle.rooted_cactus.specs.Entries.{top_first}
use Rattle.rooted_cactus.proofs.Entries.{moved_one, top_push, none_popped}
use Rattle.rooted_cactus.proofs.tree.entries.shed_nodes.Goals as goal

pub back-smaller : goal.back-smaller
back-smaller c =
    let popped = popped_is (nodes_in c.back.nodes) (nodes_in c.pop.new.self) c.pop.result c.in-Some.node c.pop.ensures.items c.in-Some.is in
    omega (arith, ap length popped, length-append (nodes_in c.pop.new.self) (c.in-Some.node ∷ []))

pub back-preserved : goal.back-preserved
back-preserved c =
    let popped = popped_is (nodes_in c.back.nodes) (nodes_in c.pop.new.self) c.pop.result c.in-Some.node c.pop.ensures.items c.in-Some.is in
    moved_one (nodes_in c.back.nodes) (nodes_in c.pop.new.self) (top_first c.back.stack.items) (top_first c.push.new.self.items) _ c.in-Some.node popped
    (ap top_first c.in_ok-push.ensures.items ∙ top_push c.back.stack.items c.in-Some.node) c.back.invariant

pub returns : goal.returns
returns c =
    let none = none_popped (nodes_in c.back.nodes) (length (nodes_in c.back.nodes)) c.pop.result refl c.pop.ensures.some c.in_default.not-Some in
    sym (ap (λ l. l ++ top_first c.back.stack.items) none) ∙ c.back.invariant
