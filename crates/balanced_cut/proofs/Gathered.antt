-- The mass of a set among the first vertices.
use Rattle.std.proofs.Common.{◌≡◌, ℕ, zero, suc, ◌+◌, ◌-◌, ◌*◌, ◌≤◌, ◌<◌, ◌^◌, true, false, List, [], ◌∷◌, length, ap, arith}
use Rattle.std.specs.List.{range_with_len, sum_by}
use Rattle.std.proofs.lemmas.List.Elements.{All-get_or}
use Rattle.std.proofs.lemmas.List.Sums.{sum_by-cons, sum_by-append}
use Rattle.cut_definitions.specs.Balance.{AreMasses, mass, mass_of}
use Rattle.cut_definitions.specs.Weight.{VertexSet}
use Rattle.cut_definitions.proofs.Masses.{mass_term}
use Rattle.cut_definitions.proofs.Bools.{counted_in, counted_out, term_bound}
use Rattle.cut_definitions.proofs.Ranges.{range_push}

-- the mass of the vertices 1 to k of a set
abbrev pub mass_among : List ℕ → VertexSet → ℕ → ℕ
mass_among masses s k = sum_by (mass_term masses s) (range_with_len 1 k)

-- the mass of the vertices 1 to k of a set, with one vertex more
next_among : (masses : List ℕ) (s : VertexSet) (k : ℕ) → mass_among masses s (suc k) ≡ mass_among masses s k + mass_term masses s (1 + k)
next_among masses s k =
    let terms = mass_term masses s in
    omega (arith, ap (sum_by terms) (range_push 1 k), sum_by-append terms (range_with_len 1 k) ((1 + k) ∷ []), sum_by-cons terms (1 + k) [])

-- a vertex v of the set is the next one
pub held_among : (masses : List ℕ) (s : VertexSet) (v : ℕ) → 1 ≤ v → s v ≡ true → mass_among masses s v ≡ mass_among masses s (v - 1) + mass_of masses v
held_among masses s zero l h = absurd (omega (arith, l))
held_among masses s (suc k) l h =
    let k_is : suc k - 1 ≡ k = omega arith in
    let v_is : 1 + k ≡ suc k = omega arith in
    omega (arith, next_among masses s k, ap (mass_among masses s) k_is, ap (mass_term masses s) v_is, counted_in (s (suc k)) (mass_of masses (suc k)) h)

-- one that is not of the set
pub left_among : (masses : List ℕ) (s : VertexSet) (v : ℕ) → 1 ≤ v → s v ≡ false → mass_among masses s v ≡ mass_among masses s (v - 1)
left_among masses s zero l h = absurd (omega (arith, l))
left_among masses s (suc k) l h =
    let k_is : suc k - 1 ≡ k = omega arith in
    let v_is : 1 + k ≡ suc k = omega arith in
    omega (arith, next_among masses s k, ap (mass_among masses s) k_is, ap (mass_term masses s) v_is, counted_out (s (suc k)) (mass_of masses (suc k)) h)

-- all of the set
pub all_among : (masses : List ℕ) (s : VertexSet) (k : ℕ) → k ≡ length masses → mass_among masses s k ≡ mass masses s
unfolding mass
all_among masses s k e = ap (mass_among masses s) e

-- k vertices have less than k times 2^64
pub among_bound : (masses : List ℕ) (s : VertexSet) (k : ℕ) → AreMasses masses → k ≤ length masses → mass_among masses s k ≤ k * (2 ^ 64 - 1)
among_bound masses s zero are within = omega arith
among_bound masses s (suc k) are within =
    let place : 1 + k - 1 ≡ k = omega arith in
    let each : mass_of masses (1 + k) < 2 ^ 64 = All-get_or (λ m. m < 2 ^ 64) masses (1 + k - 1) 0 (omega (arith, within)) are.bounded in
    omega (arith, next_among masses s k, term_bound (s (1 + k)) (mass_of masses (1 + k)) (2 ^ 64 - 1) (omega (arith, each)), among_bound masses s k are (omega (arith, within)))
