use Rattle.std.proofs.Common.{◌≡◌, ℕ, ◌+◌, ◌<◌, get_or, length, take}
use Rattle.std.specs.Prelude.{if◌then◌else◌}
use Rattle.cut_definitions.specs.Cuts.{has}
use Rattle.mincut_c.proofs.augments.put_set.Given as goal

abbrev pub invariant-members : goal.invariant-members
invariant-members l = (v : ℕ) → v < length l.set_of → get_or l.set_of v 0 ≡ (if has (take l.k l.set) (v + 1) then l.number else get_or l.fn.set_of v 0)
