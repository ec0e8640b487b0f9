use Rattle.std.proofs.Common.{ap, arith}
use Rattle.std.specs.List.{sum_by}
use Rattle.std.proofs.lemmas.List.{take_all}
use Rattle.std.proofs.lemmas.List.Sums.{sum_by_more, sum_by_more_le}
use Rattle.mincut_c.proofs.masses.is_small.Goals as goal

pub masses-preserved : goal.masses-preserved
masses-preserved c = omega (arith, sum_by_more (λ x. x) c.args.masses.now c.masses.mass-index 0 (omega arith), c.masses.invariant)

pub returns-then-mass-total-clause-no : goal.returns-then-mass-total-clause-no
returns-then-mass-total-clause-no c = λ _. omega (arith, sum_by_more_le (λ x. x) c.args.masses.now c.masses.mass-index 0 (omega arith), c.masses.invariant)

pub returns-clause-yes : goal.returns-clause-yes
returns-clause-yes c = λ _. omega (arith, ap (sum_by (λ x. x)) (take_all c.masses.mass-index c.args.masses.now (omega arith)), c.masses.invariant)
