-- The numbers of statuses are apart.
use Rattle.std.proofs.Common.{◌≡◌, ℕ, ◌≤◌, arith}
use Rattle.mincut_c.specs.declared.status.Fault.{Fault}
use Rattle.mincut_c.specs.Statuses.{number_of}

pub nine_zero : ◌≡◌ {A = ℕ} 9 0 → ⊥
nine_zero e = omega (arith, e)

pub zero_nine : ◌≡◌ {A = ℕ} 0 9 → ⊥
zero_nine e = omega (arith, e)

-- no fault has the status of an answer
pub from_one : (fault : Fault) → 1 ≤ number_of fault
from_one fault = grind arith
