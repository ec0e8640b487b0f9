-- The two masses that a range of the balance can have, and what was found.
use Rattle.std.specs.Prelude.{Option, Some}
use Rattle.std.proofs.Common.{◌≡◌, ◌+◌, ◌-◌, ◌≤◌, ◌⊎◌, inl, inr, sym, subst, arith}
use Rattle.std.proofs.lemmas.Bool.{cases_lt}
use Rattle.rooted_cactus.specs.CutRanges.{Range}
use Rattle.cactus_walk.specs.Weighing.{span_mass, total_mass}
use Rattle.cactus_walk.specs.declared.walk.shown.Span.{Span}
use Rattle.canonical_cactus.specs.FirstBest.{IsFound, IsWanted}
use Rattle.canonical_cactus.specs.declared.first_side.Ranked.{Ranked}

-- ---- the two masses
-- a range with the balance has the one or the other
pub mass_by : (k : Ranked) (r : Range) → IsWanted k r → span_mass k.ranges r ≤ total_mass k.ranges → (span_mass k.ranges r ≡ k.high) ⊎ (span_mass k.ranges r + k.high ≡ total_mass k.ranges)
mass_by k r wanted whole = elim (cases_lt (span_mass k.ranges r) (total_mass k.ranges - span_mass k.ranges r)) [
  | inl l ↦ inl (omega (arith, wanted, l))
  | inr l ↦ inr (omega (arith, wanted, l, whole))
]

-- ---- what was found
-- one of two ranges that can be found is one
pub found_next : (k : Ranked) (found : Option Span) (span new : Span) → IsFound k found → IsFound k (Some span) → (new ≡ span) ⊎ (found ≡ Some new) → IsFound k (Some new)
found_next k found span new old here one = elim one [
  | inl e ↦ subst (λ s. IsFound k (Some s)) (sym e) here
  | inr e ↦ subst (IsFound k) e old
]
