use Rattle.std.proofs.Common.{[], ◌∷◌, ◌++◌, None, length, map, ◌∙◌, ap, refl, arith}
use Rattle.std.proofs.lemmas.List.{length-append}
use Rattle.cut_definitions.proofs.ListLaws.{popped_is}
use Rattle.rooted_cactus.specs.Entries.{top_first}
use Rattle.rooted_cactus.specs.Trees.{nodes_in}
use Rattle.rooted_cactus.proofs.Entries.{top_push, top_length, none_popped}
use Rattle.rooted_cactus.proofs.Tops.{filled_one, filled_all}
use Rattle.canonical_cactus.proofs.Ordered.{child_in, least_at, lessers, lessers_one, lessers_all, cycle_finished}
use Rattle.canonical_cactus.proofs.rows.cycle_of.Goals as goal

pub close-init : goal.close-init
close-init c = record {
  nodes = ap (λ bs. bs ++ map child_in (top_first c.face.new.nodes.items)) c.in_ok-children.ensures;
  least = refl;
}

pub close-smaller : goal.close-smaller
close-smaller c =
    let popped = popped_is c.close.nodes.items c.pop.new.self.items c.pop.result c.in-Some.next c.pop.ensures.items c.in-Some.is in
    omega (arith, ap length popped, length-append c.pop.new.self.items (c.in-Some.next ∷ []))

pub close-preserved : goal.close-preserved
close-preserved c =
    let next = c.in-Some.next in
    let left = c.pop.new.self.items in
    let popped = popped_is c.close.nodes.items left c.pop.result next c.pop.ensures.items c.in-Some.is in
    let top = ap top_first popped ∙ top_push left next in
    record {
      nodes = filled_one child_in (nodes_in c.close.children) (nodes_in c.push.new.self) (top_first c.close.nodes.items) (top_first left) next _ (c.in_ok-push.ensures.ok ∙ ap (λ x. nodes_in c.close.children ++ x ∷ []) c.trimmed.ensures) top c.close.invariant.nodes;
      least = lessers_one least_at c.close.least c.lesser-least.result (top_first c.close.nodes.items) (top_first left) next _ c.lesser-least.ensures top c.close.invariant.least;
    }

pub returns : goal.returns
returns c = λ rs a.
    let none = none_popped c.close.nodes.items c.close.nodes.len c.pop.result c.close.nodes.ok.0 c.pop.ensures.variant c.in_default.not-Some in
    let empty = ap top_first none in
    cycle_finished rs (top_first c.args.nodes.items) c.close.children _ refl
    (filled_all child_in (nodes_in c.close.children) (top_first c.close.nodes.items) _ empty c.close.invariant.nodes ∙ ap (map child_in) c.face.ensures)
    (lessers_all least_at c.close.least (top_first c.close.nodes.items) _ empty c.close.invariant.least ∙ ap (λ ps. lessers None (map least_at ps)) c.face.ensures)
    (λ two. c.requires (omega (arith, two, top_length c.args.nodes.items))) a
