-- Membership in lists that are joined.
use Rattle.std.proofs.Common.{◌≡◌, ℕ, zero, suc, ◌+◌, ◌<◌, ◌≤◌, ⊎_elim, List, sym, subst, arith}
use Rattle.std.specs.List.{Contains, flat_map, range_with_len}
use Rattle.std.proofs.lemmas.Bool.{cases_eq}
use Rattle.std.proofs.lemmas.List.Elements.{Contains-append_left, Contains-append_right, Contains-append_cases}
use Rattle.cut_definitions.proofs.Lists.{Contains-nil}

pub contains_joined : {X : Type 0} (f : ℕ → List X) (low n i : ℕ) (x : X) → low ≤ i → i < low + n → Contains (f i) x → Contains (flat_map f (range_with_len low n)) x
contains_joined f low zero i x l u h = absurd (omega arith)
contains_joined f low (suc n) i x l u h =
    ⊎_elim
    (λ (e : low ≡ i). Contains-append_left (f low) (flat_map f (range_with_len (low + 1) n)) x (subst (λ (j : ℕ). Contains (f j) x) (sym e) h))
    (λ (ne : low ≡ i → ⊥). Contains-append_right (f low) (flat_map f (range_with_len (low + 1) n)) x (contains_joined f (low + 1) n i x (omega arith) (omega arith) h))
    (cases_eq low i)

-- a member of lists joined is one of some list
pub record IsFrom {X : Type 0} (f : ℕ → List X) (low n : ℕ) (x : X) : Type 0 where
  pub place : ℕ
  pub from_low : low ≤ place
  pub below : place < low + n
  pub member : Contains (f place) x

pub from_joined : {X : Type 0} (f : ℕ → List X) (low n : ℕ) (x : X) → Contains (flat_map f (range_with_len low n)) x → IsFrom f low n x
from_joined f low zero x h = absurd (Contains-nil x h)
from_joined f low (suc n) x h =
    ⊎_elim
    (λ l. record { place = low; from_low = omega arith; below = omega arith; member = l })
    (λ r. let t = from_joined f (low + 1) n x r in record { place = t.place; from_low = omega (arith, t.from_low); below = omega (arith, t.below); member = t.member })
    (Contains-append_cases (f low) (flat_map f (range_with_len (low + 1) n)) x h)
