-- Masses of sets, vertex by vertex.
use Rattle.std.proofs.Common.{◌≡◌, ℕ, zero, suc, ◌+◌, ◌-◌, ◌<◌, ◌≤◌, ◌^◌, ⊎_elim, Bool, true, eqb, List, length, set, get_or, length-set, get_or-set_same, get_or-set_other, refl, sym, ◌∙◌, ap, subst, arith}
use Rattle.std.specs.Prelude.{◌≢◌, if◌then◌else◌}
use Rattle.std.specs.List.{range_with_len, sum_by}
use Rattle.std.proofs.lemmas.Bool.{cases_eq, eq-eqb, ne_eqb}
use Rattle.std.proofs.lemmas.List.Sums.{sum_by-cons}
use Rattle.cut_definitions.specs.Weight.{VertexSet}
use Rattle.cut_definitions.specs.Balance.{AreMasses, mass, mass_of}
use Rattle.cut_definitions.proofs.Masses.{mass_term, mass-complement, mass-bound}

-- the mass of the vertices of a set up to one
abbrev pub mass_to : List ℕ → VertexSet → ℕ → ℕ
mass_to masses s v = sum_by (mass_term masses s) (range_with_len 1 v)

pub mass_whole : (masses : List ℕ) (s : VertexSet) → mass_to masses s (length masses) ≡ mass masses s
unfolding mass
mass_whole masses s = refl

range_more : (f : ℕ → ℕ) (k low : ℕ) → sum_by f (range_with_len low (suc k)) ≡ sum_by f (range_with_len low k) + f (low + k)
range_more f zero low = let same : f (low + 0) ≡ f low = ap f (let q : low + 0 ≡ low = omega arith in q) in omega (arith, sum_by-cons f low (range_with_len (low + 1) 0))
range_more f (suc k) low =
    let same : f (low + 1 + k) ≡ f (low + suc k) = ap f (let q : low + 1 + k ≡ low + suc k = omega arith in q) in
    omega (arith, sum_by-cons f low (range_with_len (low + 1) (suc k)), sum_by-cons f low (range_with_len (low + 1) k), range_more f k (low + 1))

pub mass_more : (masses : List ℕ) (s : VertexSet) (v : ℕ) → mass_to masses s (v + 1) ≡ mass_to masses s v + mass_term masses s (v + 1)
mass_more masses s v =
    let next : v + 1 ≡ suc v = omega arith in
    let here : mass_term masses s (1 + v) ≡ mass_term masses s (v + 1) = ap (mass_term masses s) (let q : 1 + v ≡ v + 1 = omega arith in q) in
    let all : mass_to masses s (v + 1) ≡ mass_to masses s (suc v) = ap (λ (k : ℕ). mass_to masses s k) next in
    omega (arith, range_more (mass_term masses s) v 1)

mass_grows : (masses : List ℕ) (s : VertexSet) (j v : ℕ) → mass_to masses s v ≤ mass_to masses s (v + j)
mass_grows masses s zero v = let same : mass_to masses s (v + 0) ≡ mass_to masses s v = ap (λ (k : ℕ). mass_to masses s k) (let q : v + 0 ≡ v = omega arith in q) in omega arith
mass_grows masses s (suc j) v =
    let same : mass_to masses s (v + suc j) ≡ mass_to masses s (v + j + 1) = ap (λ (k : ℕ). mass_to masses s k) (let q : v + suc j ≡ v + j + 1 = omega arith in q) in
    omega (arith, mass_grows masses s j v, mass_more masses s (v + j))

pub mass_to_most : (masses : List ℕ) (s : VertexSet) (v : ℕ) → v ≤ length masses → mass_to masses s v ≤ mass masses s
mass_to_most masses s v le =
    let same : mass_to masses s (v + (length masses - v)) ≡ mass_to masses s (length masses) = ap (λ (k : ℕ). mass_to masses s k) (let q : v + (length masses - v) ≡ length masses = omega arith in q) in
    omega (arith, mass_grows masses s (length masses - v) v, mass_whole masses s)

pub mass_most : (masses : List ℕ) (s : VertexSet) → mass masses s ≤ mass masses (λ v. true)
mass_most masses s = omega (arith, mass-complement masses s)

pub all_small : (masses : List ℕ) (v : ℕ) → AreMasses masses → v ≤ length masses → mass_to masses (λ u. true) v < 2 ^ 86
all_small masses v are le = omega (arith, mass_to_most masses (λ u. true) v le, mass-bound masses (λ u. true) are)

-- ---- the masses of all numbers

pub record AreMassesTo (masses part_of : List ℕ) (count v : ℕ) (sums : List ℕ) : Type 0 where
  pub long : length sums ≡ count + 1
  pub each : (i : ℕ) → i ≤ count → get_or sums i 0 ≡ mass_to masses (λ u. eqb (get_or part_of u 0) i) v

term_in : (masses part_of : List ℕ) (i v : ℕ) → get_or part_of v 0 ≡ i → mass_term masses (λ u. eqb (get_or part_of u 0) i) v ≡ mass_of masses v
term_in masses part_of i v e = ap (λ (b : Bool). if b then mass_of masses v else 0) (eq-eqb (get_or part_of v 0) i e)

term_out : (masses part_of : List ℕ) (i v : ℕ) → get_or part_of v 0 ≢ i → mass_term masses (λ u. eqb (get_or part_of u 0) i) v ≡ 0
term_out masses part_of i v ne = ap (λ (b : Bool). if b then mass_of masses v else 0) (ne_eqb (get_or part_of v 0) i ne)

-- the next mass fits its number's sum
pub next_small : (masses part_of : List ℕ) (count v number : ℕ) (sums : List ℕ) → AreMassesTo masses part_of count v sums → v < length masses → number ≡ get_or part_of (v + 1) 0 → number ≤ count →
    get_or sums number 0 + mass_of masses (v + 1) ≤ mass masses (λ u. true)
next_small masses part_of count v number sums h l e le =
    let s = λ (u : ℕ). eqb (get_or part_of u 0) number in
    omega (arith, h.each number le, mass_more masses s v, term_in masses part_of number (v + 1) (sym e), mass_to_most masses s (v + 1) (omega arith), mass_most masses s)

pub masses_more : (masses part_of : List ℕ) (count v number w : ℕ) (sums : List ℕ) → AreMassesTo masses part_of count v sums → number ≡ get_or part_of (v + 1) 0 → number ≤ count → w ≡ get_or sums number 0 + mass_of masses (v + 1) →
    AreMassesTo masses part_of count (v + 1) (set sums number w)
masses_more masses part_of count v number w sums h e le w_is = record {
  long = length-set sums number w ∙ h.long;
  each = λ i li. ⊎_elim
      (λ (q : i ≡ number).
      let s = λ (u : ℕ). eqb (get_or part_of u 0) number in
      let sum : w ≡ mass_to masses s (v + 1) = omega (arith, h.each number le, mass_more masses s v, term_in masses part_of number (v + 1) (sym e)) in
      subst (λ (k : ℕ). get_or (set sums number w) k 0 ≡ mass_to masses (λ u. eqb (get_or part_of u 0) k) (v + 1)) (sym q) (get_or-set_same sums number w 0 (omega (arith, h.long)) ∙ sum))
      (λ (ne : i ≢ number).
      let s = λ (u : ℕ). eqb (get_or part_of u 0) i in
      let same : mass_to masses s v ≡ mass_to masses s (v + 1) = omega (arith, mass_more masses s v, term_out masses part_of i (v + 1) (λ q. ne (sym q ∙ sym e))) in
      get_or-set_other sums number i w 0 ne ∙ (h.each i li ∙ same))
      (cases_eq i number);
}
