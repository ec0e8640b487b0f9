-- Laws on the masses of sets.
use Rattle.std.proofs.Common.{◌≡◌, ℕ, zero, suc, ◌+◌, ◌*◌, ◌-◌, ◌<◌, ◌≤◌, ◌^◌, Bool, true, false, not, ◌&&◌, ◌||◌, ◌==◌, inl, inr, List, length, ap, ◌∙◌, refl, sym, arith}
use Rattle.std.specs.Prelude.{if◌then◌else◌}
use Rattle.std.specs.List.{range_with_len, sum_by}
use Rattle.std.proofs.lemmas.Bool.{cases_eq, eq-eqb, eqb-true, ne_eqb}
use Rattle.std.proofs.lemmas.List.Sums.{sum_by-cons}
use Rattle.std.proofs.lemmas.List.Elements.{All-get_or}
use Rattle.cut_definitions.specs.Weight.{VertexSet, complement, either}
use Rattle.cut_definitions.specs.Balance.{AreMasses, mass, mass_of}
use Rattle.cut_definitions.proofs.Sums.{sum_by-plus, sum_by-same, sum_by-none}
use Rattle.cut_definitions.proofs.Bools.{counted_in, counted_out, term_bound}

-- what a vertex of mass m adds to the mass of a set that has it or not
abbrev pub mass_term : List ℕ → VertexSet → ℕ → ℕ
mass_term masses s v = if s v then mass_of masses v else 0

-- terms that agree on a range add up to the same
same_on_range : (f g : ℕ → ℕ) (k low : ℕ) → ((v : ℕ) → low ≤ v → v < low + k → f v ≡ g v) → sum_by f (range_with_len low k) ≡ sum_by g (range_with_len low k)
same_on_range f g zero low h = refl
same_on_range f g (suc k) low h =
    omega (
      arith,
      sum_by-cons f low (range_with_len (low + 1) k),
      sum_by-cons g low (range_with_len (low + 1) k),
      h low (omega arith) (omega arith),
      same_on_range f g k (low + 1) (λ v from to. h v (omega (arith, from)) (omega (arith, to))),
    )

-- terms that none exceeds add up to at most as often that
at_most_each : (f : ℕ → ℕ) (most k low : ℕ) → ((v : ℕ) → low ≤ v → v < low + k → f v ≤ most) → sum_by f (range_with_len low k) ≤ k * most
at_most_each f most zero low h = omega arith
at_most_each f most (suc k) low h =
    omega (
      arith,
      sum_by-cons f low (range_with_len (low + 1) k),
      h low (omega arith) (omega arith),
      at_most_each f most k (low + 1) (λ v from to. h v (omega (arith, from)) (omega (arith, to))),
    )

same_test : (a b : Bool) (m : ℕ) → a ≡ b → (if a then m else 0) ≡ (if b then m else 0)
same_test a b m e = grind arith

-- sets with the same vertices have the same mass
pub mass-agree : (masses : List ℕ) (s t : VertexSet) → ((v : ℕ) → 1 ≤ v → v ≤ length masses → s v ≡ t v) → mass masses s ≡ mass masses t
unfolding mass
mass-agree masses s t h =
    same_on_range (mass_term masses s) (mass_term masses t) (length masses) 1 (λ v from to. same_test (s v) (t v) (mass_of masses v) (h v from (omega (arith, to))))

either_term : (a b : Bool) (m : ℕ) → (a && b) ≡ false → (if (a || b) then m else 0) ≡ (if a then m else 0) + (if b then m else 0)
either_term a b m h = grind arith

-- two sets that share no vertex
pub mass-either : (masses : List ℕ) (s t : VertexSet) → ((v : ℕ) → 1 ≤ v → v ≤ length masses → (s v && t v) ≡ false) → mass masses (either s t) ≡ mass masses s + mass masses t
unfolding mass
mass-either masses s t h =
    let f = mass_term masses s in
    let g = mass_term masses t in
    let all = range_with_len 1 (length masses) in
    let each : sum_by (mass_term masses (either s t)) all ≡ sum_by (λ v. f v + g v) all =
    same_on_range (mass_term masses (either s t)) (λ v. f v + g v) (length masses) 1 (λ v from to. either_term (s v) (t v) (mass_of masses v) (h v from (omega (arith, to)))) in
    omega (arith, each, sum_by-plus f g all)

complement_term : (a : Bool) (m : ℕ) → (if true then m else 0) ≡ (if a then m else 0) + (if not a then m else 0)
complement_term a m = grind arith

-- a set and all other vertices have the mass of all
pub mass-complement : (masses : List ℕ) (s : VertexSet) → mass masses s + mass masses (complement s) ≡ mass masses (λ v. true)
unfolding mass
mass-complement masses s =
    let f = mass_term masses s in
    let g = mass_term masses (complement s) in
    let all = range_with_len 1 (length masses) in
    let each : sum_by (mass_term masses (λ v. true)) all ≡ sum_by (λ v. f v + g v) all =
    sum_by-same (mass_term masses (λ v. true)) (λ v. f v + g v) (λ v. complement_term (s v) (mass_of masses v)) all in
    omega (arith, each, sum_by-plus f g all)

-- no vertex, no mass
pub mass-none : (masses : List ℕ) → mass masses (λ v. false) ≡ 0
unfolding mass
mass-none masses = sum_by-none (mass_term masses (λ v. false)) (λ v. refl) (range_with_len 1 (length masses))

-- no set has a mass of 2^86 or more
pub mass-bound : (masses : List ℕ) (s : VertexSet) → AreMasses masses → mass masses s < 2 ^ 86
unfolding mass
mass-bound masses s are =
    let each : (v : ℕ) → 1 ≤ v → v < 1 + length masses → mass_term masses s v ≤ 2 ^ 64 - 1 = λ v from to.
    term_bound (s v) (mass_of masses v) (2 ^ 64 - 1) (omega (arith, All-get_or (λ m. m < 2 ^ 64) masses (v - 1) 0 (omega (arith, from, to)) are.bounded)) in
    omega (arith, at_most_each (mass_term masses s) (2 ^ 64 - 1) (length masses) 1 each, are.few)

-- ---- one more vertex in a set
-- of a range without the vertex nothing is added up
none_there : (masses : List ℕ) (x k low : ℕ) → x < low → sum_by (mass_term masses (λ v. x == v)) (range_with_len low k) ≡ 0
none_there masses x zero low l = refl
none_there masses x (suc k) low l =
    omega (
      arith,
      sum_by-cons (mass_term masses (λ v. x == v)) low (range_with_len (low + 1) k),
      counted_out (x == low) (mass_of masses low) (ne_eqb x low (λ e. omega (arith, e, l))),
      none_there masses x k (low + 1) (omega (arith, l)),
    )

-- of a range that has the vertex its mass
one_there : (masses : List ℕ) (x k low : ℕ) → low ≤ x → x < low + k → sum_by (mass_term masses (λ v. x == v)) (range_with_len low k) ≡ mass_of masses x
one_there masses x zero low l h = absurd (omega (arith, l, h))
one_there masses x (suc k) low l h = elim (cases_eq x low) [
  | inl e ↦ omega (
    arith,
    sum_by-cons (mass_term masses (λ v. x == v)) low (range_with_len (low + 1) k),
    counted_in (x == low) (mass_of masses low) (eq-eqb x low e),
    none_there masses x k (low + 1) (omega (arith, e)),
    ap (mass_of masses) e,
  )
  | inr ne ↦ omega (
    arith,
    sum_by-cons (mass_term masses (λ v. x == v)) low (range_with_len (low + 1) k),
    counted_out (x == low) (mass_of masses low) (ne_eqb x low ne),
    one_there masses x k (low + 1) (omega (arith, l, ne)) (omega (arith, h)),
  )
]

-- one vertex
pub mass-single : (masses : List ℕ) (x : ℕ) → 1 ≤ x → x ≤ length masses → mass masses (λ v. x == v) ≡ mass_of masses x
unfolding mass
mass-single masses x l h = one_there masses x (length masses) 1 l (omega (arith, h))

other_or_absent : (a b : Bool) → (b ≡ true → a ≡ false) → (a && b) ≡ false
other_or_absent a true h = ap (λ t. t && true) (h refl)
other_or_absent true false h = refl
other_or_absent false false h = refl

-- a set that gets one vertex gets its mass
pub mass-put : (masses : List ℕ) (s : VertexSet) (x : ℕ) → s x ≡ false → 1 ≤ x → x ≤ length masses → mass masses (either s (λ v. x == v)) ≡ mass masses s + mass_of masses x
mass-put masses s x off l h =
    let apart : (v : ℕ) → 1 ≤ v → v ≤ length masses → (s v && (x == v)) ≡ false = λ v a b. other_or_absent (s v) (x == v) (λ same. ap s (sym (eqb-true x v same)) ∙ off) in
    omega (arith, mass-either masses s (λ v. x == v) apart, mass-single masses x l h)
