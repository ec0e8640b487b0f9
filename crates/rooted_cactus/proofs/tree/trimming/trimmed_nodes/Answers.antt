use Rattle.std.proofs.Common.{[], ◌∷◌, ◌++◌, ◌∙◌, length, map, ap, arith}
use Rattle.std.proofs.lemmas.List.{length-append}
use Rattle.cut_definitions.proofs.ListLaws.{popped_is}
use Rattle.rooted_cactus.specs.Trees.{nodes_in}
use Rattle.rooted_cactus.specs.Entries.{top_first}
use Rattle.rooted_cactus.specs.Trims.{trimmed_node}
use Rattle.rooted_cactus.proofs.Entries.{top_push, none_popped}
use Rattle.rooted_cactus.proofs.Tops.{filled_one, filled_all}
use Rattle.rooted_cactus.proofs.tree.trimming.trimmed_nodes.Goals as goal

pub close-init : goal.close-init
close-init c = ap (λ xs. xs ++ map trimmed_node (top_first c.args.nodes.items)) c.in_ok-children.ensures

pub close-smaller : goal.close-smaller
close-smaller c =
    let popped = popped_is c.close.nodes.items c.pop.new.self.items c.pop.result c.in-Some.node c.pop.ensures.items c.in-Some.is in
    omega (arith, ap length popped, length-append c.pop.new.self.items (c.in-Some.node ∷ []))

pub close-preserved : goal.close-preserved
close-preserved c =
    let node = c.in-Some.node in
    let left = c.pop.new.self.items in
    let popped = popped_is c.close.nodes.items left c.pop.result node c.pop.ensures.items c.in-Some.is in
    let pushed = c.in_ok-push.ensures.ok ∙ ap (λ x. nodes_in c.close.children ++ x ∷ []) c.trimmed.ensures in
    filled_one trimmed_node (nodes_in c.close.children) (nodes_in c.push.new.self) (top_first c.close.nodes.items) (top_first left) node _ pushed (ap top_first popped ∙ top_push left node) c.close.invariant

pub returns : goal.returns
returns c =
    let none = none_popped c.close.nodes.items c.close.nodes.len c.pop.result c.close.nodes.ok.0 c.pop.ensures.variant c.in_default.not-Some in
    filled_all trimmed_node (nodes_in c.close.children) (top_first c.close.nodes.items) _ (ap top_first none) c.close.invariant
