-- What is counted and gathered along the borders of the tree is the number of the sides that the ask lets through, and these.
use Rattle.std.proofs.Common.{◌≡◌, ◌*◌, ◌<◌, ◌≤◌, ◌^◌, length, sym, ◌∙◌, subst}
use Rattle.std.specs.List.{All}
use Rattle.std.proofs.lemmas.Bool.{MatchBool-at_true, MatchBool-at_false}
use Rattle.vertex_set.specs.Side.{VertexList, members_of}
use Rattle.cactus_walk.specs.Repeats.{ranges_kept}
use Rattle.cut_listing.specs.declared.ask.Ask.TheVariants.{Least}
use Rattle.cut_listing.proofs.Balanced.{counted_lent, gathered_lent, kept_small, weighed}
use Rattle.cut_listing.proofs.Passes.{has_a_vertex, listed, none_listed, too_many}
use Rattle.cut_listing.proofs.weighed.list_balanced.Goals as goal

pub is_too_large-requires : goal.is_too_large-requires
is_too_large-requires c = rw c.n-n.ensures.value (has_a_vertex c.args.cactus.now.vertices c.args.cactus.now.root c.n-n.ensures.cactus)

pub count_bands-cuts-requires-clause-few : goal.count_bands-cuts-requires-clause-few
count_bands-cuts-requires-clause-few c =
    let all = c.args.cactus.now in
    let p = c.in_ok-places.places in
    let h = c.in_ok-places.ensures in
    let r = c.in_ok-ranges.ranges in
    let made = c.in_ok-ranges.ensures in
    let w = weighed all c.args.weights.now p.order.items p.borders.items r p.repeats.items c.root-root.ensures.cactus c.requires.normal c.requires.masses h.order h.long h.once h.sides (h.different c.requires.normal) made.order made.borders made.sums in
    subst (λ l. length (ranges_kept r.borders.items l) < 2 ^ 62) (sym c.deref.ensures.value) (kept_small all c.args.weights.now r p.repeats.items w)

pub returns-then-is_too_large-clause-refusal : goal.returns-then-is_too_large-clause-refusal
returns-then-is_too_large-clause-refusal c =
    let all = c.args.cactus.now in
    let p = c.in_ok-places.places in
    let h = c.in_ok-places.ensures in
    let r = c.in_ok-ranges.ranges in
    let made = c.in_ok-ranges.ensures in
    let w = weighed all c.args.weights.now p.order.items p.borders.items r p.repeats.items c.root-root.ensures.cactus c.requires.normal c.requires.masses h.order h.long h.once h.sides (h.different c.requires.normal) made.order made.borders made.sums in
    let counted = counted_lent all c.args.weights.now r p.repeats.items c.args.least w c.deref.result.now c.count_bands-cuts.result c.deref.ensures.value c.count_bands-cuts.ensures in
    too_many all.vertices c.n-n.result (Least c.args.least c.args.weights) all c.count_bands-cuts.result counted c.n-n.ensures.value (MatchBool-at_true _ _ c.if-is_too_large.true c.is_too_large.ensures)

pub returns-then-cuts-eq0-clause-list : goal.returns-then-cuts-eq0-clause-list
returns-then-cuts-eq0-clause-list c =
    let all = c.args.cactus.now in
    let p = c.in_ok-places.places in
    let h = c.in_ok-places.ensures in
    let r = c.in_ok-ranges.ranges in
    let made = c.in_ok-ranges.ensures in
    let w = weighed all c.args.weights.now p.order.items p.borders.items r p.repeats.items c.root-root.ensures.cactus c.requires.normal c.requires.masses h.order h.long h.once h.sides (h.different c.requires.normal) made.order made.borders made.sums in
    let counted = counted_lent all c.args.weights.now r p.repeats.items c.args.least w c.deref.result.now c.count_bands-cuts.result c.deref.ensures.value c.count_bands-cuts.ensures in
    none_listed all.vertices (Least c.args.least c.args.weights) all c.new.result.items (sym c.if-cuts-eq0.true ∙ counted) c.new.ensures.items

pub sort_sides-requires-clause-different : goal.sort_sides-requires-clause-different
sort_sides-requires-clause-different c =
    let all = c.args.cactus.now in
    let p = c.in_ok-places.places in
    let h = c.in_ok-places.ensures in
    let r = c.in_ok-ranges.ranges in
    let made = c.in_ok-ranges.ensures in
    let w = weighed all c.args.weights.now p.order.items p.borders.items r p.repeats.items c.root-root.ensures.cactus c.requires.normal c.requires.masses h.order h.long h.once h.sides (h.different c.requires.normal) made.order made.borders made.sums in
    let gathered = gathered_lent all c.args.weights.now r p.repeats.items c.args.least w c.deref-2.result.now (members_of c.in_ok-sides.sides.items) c.deref-2.ensures.value c.in_ok-sides.ensures.sides in
    gathered.0

pub returns-clause-list : goal.returns-clause-list
returns-clause-list c =
    let all = c.args.cactus.now in
    let p = c.in_ok-places.places in
    let h = c.in_ok-places.ensures in
    let r = c.in_ok-ranges.ranges in
    let made = c.in_ok-ranges.ensures in
    let w = weighed all c.args.weights.now p.order.items p.borders.items r p.repeats.items c.root-root.ensures.cactus c.requires.normal c.requires.masses h.order h.long h.once h.sides (h.different c.requires.normal) made.order made.borders made.sums in
    let counted = counted_lent all c.args.weights.now r p.repeats.items c.args.least w c.deref.result.now c.count_bands-cuts.result c.deref.ensures.value c.count_bands-cuts.ensures in
    let gathered = gathered_lent all c.args.weights.now r p.repeats.items c.args.least w c.deref-2.result.now (members_of c.in_ok-sides.sides.items) c.deref-2.ensures.value c.in_ok-sides.ensures.sides in
    let cuts = c.count_bands-cuts.result in
    let few : cuts * all.vertices ≤ 2 ^ 30 = subst (λ k. cuts * k ≤ 2 ^ 30) c.n-n.ensures.value (MatchBool-at_false _ _ c.if-is_too_large.false c.is_too_large.ensures) in
    listed all.vertices (Least c.args.least c.args.weights) all cuts c.sort_sides.new.sides.items counted few
    (subst (λ k. All (λ (s : VertexList). s.vertices ≡ k) c.sort_sides.new.sides.items) c.n-n.ensures.value c.sort_sides.ensures.over_n) (c.sort_sides.ensures.listing ∙ gathered.1)
