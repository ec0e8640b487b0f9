use Rattle.std.proofs.Common.{sym, ◌∙◌, arith}
use Rattle.metis_reader.proofs.RowWords.{blanks_more}
use Rattle.metis_reader.proofs.reader.behind_blanks.Goals as goal

pub loop-place-preserved : goal.loop-place-preserved
loop-place-preserved c = record {
  low = omega (arith, c.loop-place.invariant.low);
  within = omega (arith, c.loop-place-test.true);
  blanks = blanks_more c.args.bytes.now c.args.from c.loop-place.place c.loop-place.invariant.low c.loop-place-test.true c.loop-place.invariant.blanks (sym c.is_blank.ensures ∙ c.if-is_blank.true);
}
