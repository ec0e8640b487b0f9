-- One side more of a band.
use Rattle.std.proofs.Common.{◌≡◌, ◌<◌, ◌++◌, [], ◌∷◌, length, map, ap, ◌∙◌, sym, refl, subst, arith, append_assoc}
use Rattle.std.specs.List.{All}
use Rattle.std.proofs.lemmas.List.{map-append}
use Rattle.std.proofs.lemmas.List.Elements.{All-append, All-cons, All-nil}
use Rattle.vertex_set.specs.Side.{VertexList, members_of}
use Rattle.rooted_cactus.specs.Places.{side_at}
use Rattle.rooted_cactus.specs.CutRanges.{Range}
use Rattle.cactus_walk.proofs.Stepping.{place_within}
use Rattle.cut_listing.specs.Bands.{ranges_of}
use Rattle.rooted_cactus.specs.Borders.{range_between}
use Rattle.cut_listing.proofs.Bands.{band_more}
use Rattle.cut_listing.proofs.weighed.add_sides.Goals as goal

pub side-requires : goal.side-requires
side-requires c =
    let r = c.args.ranges.now in
    omega (arith, ap (λ (q : Range). q.to) c.between.ensures.is, place_within (length r.order.items) r.borders.items c.ends.end r.within (omega (arith, c.ends-test.true, c.requires.band)))

pub ends-preserved : goal.ends-preserved
ends-preserved c =
    let r = c.args.ranges.now in
    let bs = r.borders.items in
    let IsOver : VertexList → Type 0 = λ s. s.vertices ≡ length r.order.items in
    let start = c.args.start in
    let end = c.ends.end in
    let side = side_at (length r.order.items) r.order.items in
    let found = c.ends.found.items in
    let new = c.in_ok-side.side in
    let before = ranges_of bs start c.args.band.from end in
    let there : end < length bs = omega (arith, c.ends-test.true, c.requires.band) in
    record {
      last = refl;
      bounded = omega (arith, c.ends-test.true);
      over_n = subst (All IsOver) (sym c.in_ok-push.ensures.items)
          (All-append IsOver found (new ∷ []) c.ends.invariant.over_n (All-cons IsOver new [] c.in_ok-side.ensures.n (All-nil IsOver)));
      added = ap members_of c.in_ok-push.ensures.items ∙ map-append (λ (s : VertexList). s.members) found (new ∷ [])
          ∙ ap (λ m. members_of found ++ m ∷ []) (c.in_ok-side.ensures.side ∙ ap side c.between.ensures.is)
          ∙ ap (λ l. l ++ side (range_between bs start end) ∷ []) c.ends.invariant.added
          ∙ append_assoc (members_of c.args.found.now.items) (map side before) (side (range_between bs start end) ∷ [])
          ∙ ap (λ l. members_of c.args.found.now.items ++ l) (sym (ap (map side) (band_more bs start c.args.band.from end c.ends.auto.end there) ∙ map-append side before (range_between bs start end ∷ [])));
    }
