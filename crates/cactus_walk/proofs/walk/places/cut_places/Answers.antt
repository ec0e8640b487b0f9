-- The order and the borders that were gathered are those of the tree, whose laws are known.
use Rattle.std.proofs.Common.{◌∙◌, ap, sym, length, subst}
use Rattle.rooted_cactus.specs.Borders.{AllHop}
use Rattle.rooted_cactus.proofs.Outlined.{all_hop, sizes_length}
use Rattle.cactus_walk.proofs.Placed.{are_places, borders_read, places_many}
use Rattle.cactus_walk.proofs.walk.places.cut_places.Goals as goal

pub borders_of-requires-clause-sizes : goal.borders_of-requires-clause-sizes
borders_of-requires-clause-sizes c =
    let x = c.args.cactus.now.root in
    ap length (c.deref.ensures.value ∙ c.in_ok-laid.ensures.entries) ∙ sizes_length x ∙ sym (ap length (c.deref-2.ensures.value ∙ c.in_ok-laid.ensures.sizes))

pub borders_of-requires-clause-places : goal.borders_of-requires-clause-places
borders_of-requires-clause-places c =
    places_many c.args.cactus.now.root c.deref-2.result.now c.deref-3.result.now (c.deref-2.ensures.value ∙ c.in_ok-laid.ensures.sizes) (c.deref-3.ensures.value ∙ c.in_ok-laid.ensures.places)

pub borders_of-requires-clause-hops : goal.borders_of-requires-clause-hops
borders_of-requires-clause-hops c =
    let x = c.args.cactus.now.root in
    subst (λ s. AllHop s 0 c.deref.result.now) (sym (c.deref-2.ensures.value ∙ c.in_ok-laid.ensures.sizes))
    (subst (AllHop _ 0) (sym (c.deref.ensures.value ∙ c.in_ok-laid.ensures.entries)) (all_hop x))

pub returns : goal.returns
returns c =
    let x = c.args.cactus.now.root in
    let borders = c.in_ok-borders.ensures ∙ borders_read x c.deref.result.now c.deref-2.result.now c.deref-3.result.now (c.deref.ensures.value ∙ c.in_ok-laid.ensures.entries) (c.deref-2.ensures.value ∙ c.in_ok-laid.ensures.sizes) (c.deref-3.ensures.value ∙ c.in_ok-laid.ensures.places) in
    let p = are_places c.args.cactus.now.vertices x c.in_ok-laid.laid.listing.vertices.items c.in_ok-borders.borders.items c.in_ok-laid.ensures.cactus c.in_ok-laid.ensures.vertices borders in
    record { order = c.in_ok-laid.ensures.vertices; long = p.long; vertices = p.vertices; once = p.once; borders = p.borders; chained = p.chained; sides = p.sides }
