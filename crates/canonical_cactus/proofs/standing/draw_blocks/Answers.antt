use Rattle.std.proofs.Common.{◌≡◌, ◌∙◌, ◌-◌, ◌<◌, ◌++◌, ◌∷◌, ◌&&◌, ◌||◌, ◌==◌, map, take, drop, ap, sym, arith}
use Rattle.std.specs.Prelude.{nat_lt}
use Rattle.std.specs.List.{filter, flat_map, list_all}
use Rattle.cut_definitions.specs.Cuts.{least}
use Rattle.rooted_cactus.specs.Entries.{nodes_of}
use Rattle.rooted_cactus.specs.Numbers.{is_inner}
use Rattle.rooted_cactus.specs.Trees.{blocks_in}
use Rattle.canonical_cactus.specs.Canonical.{Arranged, all_vertices, arranged_block, ascend, leasts}
use Rattle.canonical_cactus.specs.Inner.{is_turned, leasts_of}
use Rattle.canonical_cactus.specs.Standing.{least_in, lesser_of, or_zero}
use Rattle.canonical_cactus.proofs.Ascending.{first_or_zero, zero_least}
use Rattle.canonical_cactus.proofs.Inner.{ascend_front, drawn_block, each_front, from_place, least_front, none_behind, some_behind}
use Rattle.canonical_cactus.proofs.standing.draw_blocks.Goals as goal

pub draw_block-block-requires : goal.draw_block-block-requires
draw_block-block-requires c =
    let bs = blocks_in c.args.blocks.now in
    (c.requires.0 ++ leasts_of (filter is_inner (flat_map nodes_of (take (c.back.i - 1) bs))), drawn_block bs c.back.i c.at.result.now c.requires.0 _ (omega arith) c.at.ensures (c.back.invariant.known c.requires.0 c.requires.1))

pub back-preserved : goal.back-preserved
back-preserved c =
    let bs = blocks_in c.args.blocks.now in
    let i = c.back.i in
    let b = c.at.result.now in
    let a : Arranged = arranged_block b in
    let inv = c.back.invariant in
    let some : 0 < i = omega arith in
    let behind = map arranged_block (drop i bs) in
    let here : map arranged_block (drop (i - 1) bs) ≡ a ∷ behind = from_place arranged_block bs i b some inv.within c.at.ensures in
    let block = c.draw_block-block in
    let place = c.len-count.result - 1 - (i - 1) in
    let vertex : c.vertex_or_zero-vertex.result ≡ least a.vertices = c.vertex_or_zero-vertex.ensures ∙ ap or_zero block.ensures.least ∙ zero_least a.vertices in
    let after = (place == 0) || nat_lt (least a.vertices) (first_or_zero (leasts behind)) in
    let comes : c.comes_after-ascends.result ≡ after =
    c.comes_after-ascends.ensures ∙ ap (λ v. (place == 0) || nat_lt v c.back.next) vertex ∙ ap (λ v. (place == 0) || nat_lt (least a.vertices) v) inv.next in
    record {
      count = inv.count;
      within = omega (arith, inv.within);
      least = c.lesser-least.ensures ∙ ap (λ o. lesser_of o c.back.least) block.ensures.least ∙ ap (lesser_of (least_in a.vertices)) inv.least
          ∙ sym (ap (λ l. least_in (all_vertices l)) here ∙ least_front a behind);
      next = vertex ∙ sym (ap (λ l. first_or_zero (leasts l)) here);
      ascends = ap (λ k. c.back.ascends && k) comes ∙ ap (λ k. k && after) inv.ascends
          ∙ sym (ascend_front (least a.vertices) (leasts behind) place (λ e. none_behind arranged_block bs i (omega (arith, e, inv.count))) (λ e. some_behind arranged_block bs i (omega (arith, e, inv.count, inv.within))))
          ∙ sym (ap (λ l. ascend (leasts l)) here);
      each = ap (λ k. k && block.result.in_order) inv.each ∙ ap (λ k. list_all is_turned (drop i bs) && k) block.ensures.in_order ∙ sym (each_front bs i b some inv.within c.at.ensures);
      known = λ rest k. block.ensures.known _ (drawn_block bs i b rest _ some c.at.ensures (inv.known rest k));
    }
