-- The band of a border has as many ranges as are counted there.
use Rattle.std.proofs.Common.{arith}
use Rattle.cactus_walk.specs.Repeats.{ranges_kept}
use Rattle.cut_listing.specs.Bands.{is_heavy}
use Rattle.cut_listing.proofs.Bands.{band_counted, ends_next, few_pass}
use Rattle.cut_listing.proofs.weighed.count_bands.Goals as goal

pub overflow_add-count : goal.overflow_add-count
overflow_add-count c =
    let r = c.args.ranges.now in
    let ms = c.args.repeats.now in
    let counted = band_counted r ms c.args.least c.starts.start c.move_ends-ends.result.from c.move_ends-ends.result.to c.kept_band.result.from c.kept_band.result.to
    (omega (arith, c.starts-test.true, c.starts.invariant.last)) c.requires.repeats c.kept_band.ensures.from c.kept_band.ensures.to c.move_ends-ends.ensures in
    omega (arith, counted, c.len.ensures, c.starts.invariant.counted, c.requires.few, few_pass (is_heavy r c.args.least) (ranges_kept r.borders.items ms))

pub starts-preserved : goal.starts-preserved
starts-preserved c =
    let r = c.args.ranges.now in
    let counted = band_counted r c.args.repeats.now c.args.least c.starts.start c.move_ends-ends.result.from c.move_ends-ends.result.to c.kept_band.result.from c.kept_band.result.to
    (omega (arith, c.starts-test.true, c.starts.invariant.last)) c.requires.repeats c.kept_band.ensures.from c.kept_band.ensures.to c.move_ends-ends.ensures in
    record {
      last = c.starts.invariant.last;
      ends = ends_next r c.args.least c.starts.start c.move_ends-ends.result.from c.move_ends-ends.result.to c.move_ends-ends.ensures;
      counted = omega (arith, counted, c.len.ensures, c.starts.invariant.counted);
    }
