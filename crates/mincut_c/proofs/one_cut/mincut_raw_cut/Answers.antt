-- Each value is below the bound.
use Rattle.std.proofs.Common.{◌∙◌, arith}
use Rattle.std.proofs.Math.Nat.{min-eq_right}
use Rattle.mincut_c.proofs.one_cut.mincut_raw_cut.Goals as goal

pub returns-clause-ok : goal.returns-clause-ok
returns-clause-ok c = λ done. c.mincut_raw_cut_below.ensures.ok done ∙ min-eq_right (omega (arith, c.mincut_raw_cut_below.ensures.fits done))

pub returns-clause-cut : goal.returns-clause-cut
returns-clause-cut c = λ done. c.mincut_raw_cut_below.ensures.cut done (omega (arith, c.mincut_raw_cut_below.ensures.fits done))
