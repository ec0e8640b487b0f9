use Rattle.std.proofs.Common.{[], ◌∷◌, ◌++◌, length, map, ◌∙◌, ap, sym, refl, arith}
use Rattle.std.proofs.lemmas.List.{append-nil, length-append}
use Rattle.cut_definitions.proofs.ListLaws.{popped_is}
use Rattle.rooted_cactus.specs.Entries.{top_first}
use Rattle.rooted_cactus.specs.Trees.{blocks_in}
use Rattle.rooted_cactus.proofs.Entries.{top_push, none_popped}
use Rattle.rooted_cactus.proofs.Tops.{filled_one, filled_all}
use Rattle.canonical_cactus.specs.declared.parts.Hung.{Hung}
use Rattle.canonical_cactus.proofs.Ordered.{block_in, lessers, lessers_one, lessers_all, node_finished}
use Rattle.canonical_cactus.proofs.rows.node_of.Goals as goal

pub fill-init : goal.fill-init
fill-init c = record {
  blocks = ap (λ bs. bs ++ map block_in (top_first c.sort_down.new.row.items)) c.in_ok-blocks.ensures;
  least = ap (λ o. lessers o (map (λ (h : Hung). h.least) (top_first c.sort_down.new.row.items))) c.least_vertex-least.ensures;
}

pub fill-smaller : goal.fill-smaller
fill-smaller c =
    let popped = popped_is c.fill.row.items c.pop.new.self.items c.pop.result c.in-Some.next c.pop.ensures.items c.in-Some.is in
    omega (arith, ap length popped, length-append c.pop.new.self.items (c.in-Some.next ∷ []))

pub fill-preserved : goal.fill-preserved
fill-preserved c =
    let next = c.in-Some.next in
    let left = c.pop.new.self.items in
    let popped = popped_is c.fill.row.items left c.pop.result next c.pop.ensures.items c.in-Some.is in
    let top = ap top_first popped ∙ top_push left next in
    record {
      blocks = filled_one block_in (blocks_in c.fill.blocks) (blocks_in c.push.new.self) (top_first c.fill.row.items) (top_first left) next _ c.in_ok-push.ensures.ok top c.fill.invariant.blocks;
      least = lessers_one (λ (h : Hung). h.least) c.fill.least c.lesser-least.result (top_first c.fill.row.items) (top_first left) next _ c.lesser-least.ensures top c.fill.invariant.least;
    }

pub returns-clause-node : goal.returns-clause-node
returns-clause-node c = λ rs a.
    let none = none_popped c.fill.row.items c.fill.row.len c.pop.result c.fill.row.ok.0 c.pop.ensures.variant c.in_default.not-Some in
    let empty = ap top_first none in
    node_finished c.args.vertices rs c.args.row.now.items (top_first c.sort_down.new.row.items) _ c.sort_down.ensures.same c.sort_down.ensures.sorted refl
    (filled_all block_in (blocks_in c.fill.blocks) (top_first c.fill.row.items) _ empty c.fill.invariant.blocks)
    (lessers_all (λ (h : Hung). h.least) c.fill.least (top_first c.fill.row.items) _ empty c.fill.invariant.least) a

pub returns-clause-empty : goal.returns-clause-empty
returns-clause-empty c =
    let none = none_popped c.fill.row.items c.fill.row.len c.pop.result c.fill.row.ok.0 c.pop.ensures.variant c.in_default.not-Some in
    sym (append-nil c.pop.new.self.items) ∙ sym c.in_default.ensures.items ∙ none
