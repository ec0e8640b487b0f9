-- Each half has fewer workers than the whole, if there are two or more.
use Rattle.std.proofs.Common.{◌+◌, ◌*◌}
use Rattle.std.specs.Prelude.{max}
use Rattle.row_ranges.proofs.halves.+ranges.Given as goal

abbrev pub decreases-fill_ranges : goal.decreases-fill_ranges
decreases-fill_ranges g l = 4 * l.range.workers

abbrev pub decreases-fill_halves : goal.decreases-fill_halves
decreases-fill_halves g l = 4 * max l.low.workers l.high.workers + 2

abbrev pub decreases-fill_halves-front : goal.decreases-fill_halves-front
decreases-fill_halves-front g l = 4 * l.low.workers + 1

abbrev pub decreases-fill_halves-back : goal.decreases-fill_halves-back
decreases-fill_halves-back g l = 4 * l.high.workers + 1
