-- The band of a border has the ranges that are gathered there.
use Rattle.std.proofs.Common.{◌≡◌, ◌+◌, ◌++◌, drop, length, map, ap, ◌∙◌, sym, arith, append_assoc, append-nil}
use Rattle.std.specs.List.{filter}
use Rattle.std.proofs.lemmas.List.{map-append, drop_all}
use Rattle.rooted_cactus.specs.Places.{side_at}
use Rattle.cactus_walk.specs.Repeats.{ranges_kept}
use Rattle.cut_listing.specs.Bands.{is_heavy, ranges_of}
use Rattle.vertex_set.specs.Side.{members_of}
use Rattle.cut_listing.proofs.Bands.{band_of, band_within, ends_next}
use Rattle.cut_listing.proofs.weighed.gather_bands.Goals as goal

pub add_sides-requires-clause-band : goal.add_sides-requires-clause-band
add_sides-requires-clause-band c =
    omega (
      arith,
      band_within c.args.ranges.now c.args.least c.starts.start c.move_ends-ends.result.from c.move_ends-ends.result.to (omega (arith, c.starts-test.true, c.starts.invariant.last)) c.move_ends-ends.ensures,
      c.kept_band-band.ensures.to,
    )

pub starts-preserved : goal.starts-preserved
starts-preserved c =
    let r = c.args.ranges.now in
    let bs = r.borders.items in
    let ms = c.args.repeats.now in
    let least = c.args.least in
    let start = c.starts.start in
    let side = side_at (length r.order.items) r.order.items in
    let rest = filter (is_heavy r least) (ranges_kept (drop (start + 1) bs) (drop (start + 1) ms)) in
    let kept = c.kept_band-band.result.from in
    let to = c.kept_band-band.result.to in
    let band : filter (is_heavy r least) (ranges_kept (drop start bs) (drop start ms)) ≡ ranges_of bs start kept to ++ rest =
    band_of r ms least start c.move_ends-ends.result.from c.move_ends-ends.result.to kept (omega (arith, c.starts-test.true, c.starts.invariant.last)) c.requires.repeats c.kept_band-band.ensures.from c.move_ends-ends.ensures
    ∙ ap (λ k. ranges_of bs start kept k ++ rest) (sym c.kept_band-band.ensures.to) in
    record {
      last = c.starts.invariant.last;
      ends = ends_next r least start c.move_ends-ends.result.from c.move_ends-ends.result.to c.move_ends-ends.ensures;
      over_n = c.in_ok-add_sides.ensures.found;
      gathered = ap (λ l. l ++ map side rest) c.in_ok-add_sides.ensures.added
          ∙ append_assoc (members_of c.starts.found.items) (map side (ranges_of bs start kept to)) (map side rest)
          ∙ ap (λ l. members_of c.starts.found.items ++ l) (sym (ap (map side) band ∙ map-append side (ranges_of bs start kept to) rest))
          ∙ c.starts.invariant.gathered;
    }

pub returns-clause-sides : goal.returns-clause-sides
returns-clause-sides c =
    let r = c.args.ranges.now in
    let start = c.starts.start in
    let side = side_at (length r.order.items) r.order.items in
    let found = members_of c.starts.found.items in
    sym (append-nil found)
    ∙ ap (λ bs. found ++ map side (filter (is_heavy r c.args.least) (ranges_kept bs (drop start c.args.repeats.now)))) (sym (drop_all start r.borders.items (omega (arith, c.starts-test.false, c.starts.invariant.last))))
    ∙ c.starts.invariant.gathered
