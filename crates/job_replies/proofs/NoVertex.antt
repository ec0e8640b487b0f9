-- A number that is no vertex is in no list of vertices.
use Rattle.std.proofs.Common.{◌≡◌, ℕ, ◌<◌, false, List, sym, inl, inr, arith}
use Rattle.std.proofs.lemmas.Bool.{cases_Bool}
use Rattle.cut_listing.proofs.Passes.{ascends_to}
use Rattle.cut_definitions.specs.Cuts.{has, IsAscendingWithin}
use Rattle.cut_definitions.proofs.Bridge.{has_low}

pub none_low : (n v : ℕ) (side : List ℕ) → IsAscendingWithin 1 n side → v < 1 → false ≡ has side v
none_low n v side up low = sym (has_low 1 n v side up low)

pub none_high : (n v : ℕ) (side : List ℕ) → IsAscendingWithin 1 n side → n < v → false ≡ has side v
none_high n v side up high = elim (cases_Bool (has side v)) [
  | inl held ↦ absurd (omega (arith, high, ascends_to 1 n v side up held))
  | inr lacks ↦ sym lacks
]
