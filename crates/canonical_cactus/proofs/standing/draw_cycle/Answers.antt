use Rattle.std.proofs.Common.{◌≡◌, ◌∙◌, ◌-◌, ◌≤◌, ◌<◌, ◌++◌, ◌∷◌, inl, inr, length, map, take, drop, ap, sym, arith}
use Rattle.std.specs.List.{filter}
use Rattle.std.proofs.lemmas.Bool.{cases_eq}
use Rattle.cut_definitions.specs.Cuts.{least}
use Rattle.rooted_cactus.specs.Numbers.{is_inner}
use Rattle.rooted_cactus.specs.Trees.{nodes_in}
use Rattle.canonical_cactus.specs.Canonical.{all_vertices, arranged, leasts}
use Rattle.canonical_cactus.specs.Inner.{least_of, leasts_of}
use Rattle.canonical_cactus.specs.Standing.{least_in, lesser_of, or_zero}
use Rattle.canonical_cactus.proofs.Ascending.{first_or_zero, last_or_zero, zero_least}
use Rattle.canonical_cactus.proofs.Inner.{drawn_node, from_place, last_front, least_front, none_behind, some_behind}
use Rattle.canonical_cactus.proofs.standing.draw_cycle.Goals as goal

pub draw_least-node-requires : goal.draw_least-node-requires
draw_least-node-requires c =
    let ns = nodes_in c.args.nodes.now in
    (c.requires.0 ++ leasts_of (filter is_inner (take (c.back.i - 1) ns)), drawn_node ns c.back.i c.at.result.now c.requires.0 _ (omega arith) c.at.ensures (c.back.invariant.known c.requires.0 c.requires.1))

pub back-preserved : goal.back-preserved
back-preserved c =
    let ns = nodes_in c.args.nodes.now in
    let i = c.back.i in
    let x = c.at.result.now in
    let inv = c.back.invariant in
    let some : 0 < i = omega arith in
    let behind = map arranged (drop i ns) in
    let here : map arranged (drop (i - 1) ns) ≡ arranged x ∷ behind = from_place arranged ns i x some inv.within c.at.ensures in
    let node = c.draw_least-node in
    let vertex : c.vertex_or_zero-first.result ≡ least (arranged x).vertices = c.vertex_or_zero-first.ensures ∙ ap or_zero node.ensures.least ∙ zero_least (arranged x).vertices in
    record {
      count = inv.count;
      within = omega (arith, inv.within);
      least = c.lesser-least.ensures ∙ ap (λ o. lesser_of o c.back.least) node.ensures.least ∙ ap (lesser_of (least_of x)) inv.least
          ∙ sym (ap (λ l. least_in (all_vertices l)) here ∙ least_front (arranged x) behind);
      first = vertex ∙ sym (ap (λ l. first_or_zero (leasts l)) here);
      last = elim (cases_eq (c.len-count.result - 1 - (i - 1)) 0) [
        | inl e ↦ (let end : length ns ≤ i = omega (arith, e, inv.count) in
            c.first_of-last.ensures.zero e ∙ vertex ∙ sym (ap (λ l. last_or_zero (leasts l)) here ∙ ap (λ l. last_or_zero (least (arranged x).vertices ∷ l)) (none_behind arranged ns i end)))
        | inr ne ↦ (let inside : i < length ns = omega (arith, ne, inv.count, inv.within) in
            c.first_of-last.ensures.later (omega (arith, ne)) ∙ inv.last
            ∙ sym (ap (λ l. last_or_zero (leasts l)) here ∙ last_front (least (arranged x).vertices) (leasts behind) (some_behind arranged ns i inside)))
      ];
      known = λ rest k. node.ensures.known _ (drawn_node ns i x rest _ some c.at.ensures (inv.known rest k));
    }
