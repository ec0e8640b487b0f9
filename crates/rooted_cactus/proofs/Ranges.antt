-- The list of all vertices.
use Rattle.std.proofs.Common.{◌≡◌, ℕ, ◌+◌, ◌≤◌, ◌<◌, ◌==◌, ◌||◌, true, zero, suc, ap, arith, ⊎_elim}
use Rattle.std.specs.List.{All, range_with_len}
use Rattle.std.proofs.lemmas.List.Elements.{All-nil, All-cons, All-weaker}
use Rattle.std.proofs.lemmas.Bool.{cases_eq, eq-eqb, or_right}
use Rattle.cut_definitions.specs.Cuts.{has, IsAscendingWithin}

pub range_ascending : (m low high : ℕ) → low + m ≡ high + 1 → IsAscendingWithin low high (range_with_len low m)
range_ascending zero low high e = tt
range_ascending (suc m) low high e = (omega arith, omega arith, range_ascending m (low + 1) high (omega arith))

pub has_range : (m low v : ℕ) → low ≤ v → v < low + m → has (range_with_len low m) v ≡ true
has_range zero low v l h = absurd (omega arith)
has_range (suc m) low v l h =
    ⊎_elim
    (λ e. ap (λ b. b || has (range_with_len (low + 1) m) v) (eq-eqb low v e))
    (λ ne. or_right (low == v) (has (range_with_len (low + 1) m) v) (has_range m (low + 1) v (omega arith) (omega arith)))
    (cases_eq low v)

-- a number from low to high
abbrev pub IsWithin : ℕ → ℕ → ℕ → Type 0
IsWithin low high v = (low ≤ v) × (v ≤ high)

within_lower : (low high v : ℕ) → IsWithin (low + 1) high v → IsWithin low high v
within_lower low high v h = (omega (arith, h.0), h.1)

pub range_within : (m low high : ℕ) → low + m ≡ high + 1 → All (IsWithin low high) (range_with_len low m)
range_within zero low high e = All-nil (IsWithin low high)
range_within (suc m) low high e =
    All-cons (IsWithin low high) low (range_with_len (low + 1) m) (omega arith, omega arith)
    (All-weaker (IsWithin (low + 1) high) (IsWithin low high) (within_lower low high) (range_with_len (low + 1) m) (range_within m (low + 1) high (omega arith)))
