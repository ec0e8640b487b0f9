use Rattle.std.proofs.Common.{◌≡◌, take}
use Rattle.std.specs.List.{sum_by}
use Rattle.mincut_c.proofs.masses.is_small.Given as goal

abbrev pub invariant-masses : goal.invariant-masses
invariant-masses l = l.total ≡ sum_by (λ x. x) (take l.mass-index l.masses)
