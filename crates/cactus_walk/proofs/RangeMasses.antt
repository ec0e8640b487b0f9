-- The mass of a side is that of its range.
use Rattle.std.proofs.Common.{◌≡◌, ℕ, zero, suc, ◌+◌, ◌-◌, ◌*◌, ◌≤◌, ◌<◌, ◌^◌, ◌⊎◌, inl, inr, ⊎_elim, true, ◌||◌, ◌==◌, List, [], ◌∷◌, ◌++◌, length, get_or, take, ap, ◌∙◌, sym, subst, arith}
use Rattle.std.specs.List.{All, sum_by}
use Rattle.std.specs.Prelude.{◌≢◌}
use Rattle.std.proofs.Math.Seq.{get_or-append_seam, take-suc}
use Rattle.std.proofs.lemmas.Bool.{cases_eq}
use Rattle.std.proofs.lemmas.List.{get_or_append_left}
use Rattle.std.proofs.lemmas.List.Elements.{All-get_or}
use Rattle.std.proofs.lemmas.List.Sums.{sum_by-cons, sum_by-append}
use Rattle.cut_definitions.specs.Balance.{AreMasses, mass, mass_of}
use Rattle.cut_definitions.specs.Cuts.{has}
use Rattle.cut_definitions.specs.Weight.{complement}
use Rattle.cut_definitions.proofs.Masses.{mass-agree, mass-complement, mass-none, mass-put}
use Rattle.vertex_set.proofs.Bits.{has-listed}
use Rattle.rooted_cactus.specs.CutRanges.{Range, elements_at}
use Rattle.rooted_cactus.specs.Places.{AreOnce, side_at}
use Rattle.cut_definitions.specs.Graph.{IsVertex}
use Rattle.cactus_walk.specs.RangeMasses.{mass_before, range_mass}
use Rattle.rooted_cactus.proofs.Elements.{elements_more, elements_none, has_push}
use Rattle.rooted_cactus.proofs.Masses.{not_before, take_whole}

abbrev range : ℕ → ℕ → Range
range from to = record { from = from; to = to }

-- the vertices before the next place
pub before_next : (masses order : List ℕ) (k : ℕ) → k < length order → mass_before masses order (k + 1) ≡ mass_before masses order k + mass_of masses (get_or order k 0)
before_next masses order k h =
    let next : k + 1 ≡ suc k = omega arith in
    let more : mass_before masses order (k + 1) ≡ sum_by (mass_of masses) (take k order ++ get_or order k 0 ∷ []) =
    ap (λ i. sum_by (mass_of masses) (take i order)) next ∙ ap (sum_by (mass_of masses)) (take-suc order k 0 h) in
    omega (arith, more, sum_by-append (mass_of masses) (take k order) (get_or order k 0 ∷ []), sum_by-cons (mass_of masses) (get_or order k 0) [])

-- the masses before the places so far, with one more
pub sums_more : (masses order sums more : List ℕ) (count total sum : ℕ) → length sums ≡ count + 1 → count < length order → total ≡ mass_before masses order count → sum ≡ total + mass_of masses (get_or order count 0) →
    more ≡ sums ++ sum ∷ [] → ((k : ℕ) → k ≤ count → get_or sums k 0 ≡ mass_before masses order k) → (k : ℕ) → k ≤ count + 1 → get_or more k 0 ≡ mass_before masses order k
sums_more masses order sums more count total sum long l so_far next is h k le =
    ap (λ (s : List ℕ). get_or s k 0) is
    ∙ ⊎_elim
    (λ (e : k ≡ count + 1). rw (e, ← long) (get_or-append_seam sums sum [] 0) ∙ (next ∙ (rw so_far (sym (before_next masses order count l)) ∙ ap (mass_before masses order) (sym e))))
    (λ (ne : k ≢ count + 1). get_or_append_left sums (sum ∷ []) 0 k (omega arith) ∙ h k (omega arith))
    (cases_eq k (count + 1))

-- the mass of the elements at this many places
elements_mass : (n : ℕ) (masses order : List ℕ) → length masses ≡ n → AreOnce n order → All (IsVertex n) order → (from count : ℕ) → from + count ≤ length order →
    mass masses (has (elements_at order (range from (from + count)))) + mass_before masses order from ≡ mass_before masses order (from + count)
elements_mass n masses order long once all from zero h =
    let none : mass masses (has (elements_at order (range from (from + 0)))) ≡ 0 =
    ap (λ l. mass masses (has l)) (elements_none order from (from + 0) (omega arith)) ∙ mass-none masses in
    let same : mass_before masses order (from + 0) ≡ mass_before masses order from = ap (mass_before masses order) (let e : from + 0 ≡ from = omega arith in e) in
    omega (arith, none, same)
elements_mass n masses order long once all from (suc count) h =
    let to = from + count in
    let x = get_or order to 0 in
    let at : IsVertex n x = All-get_or (IsVertex n) order to 0 (omega (arith, h)) all in
    let next : from + suc count ≡ to + 1 = omega arith in
    let before = has (elements_at order (range from to)) in
    let put : mass masses (has (elements_at order (range from (to + 1)))) ≡ mass masses before + mass_of masses x =
    mass-agree masses (has (elements_at order (range from (to + 1)))) (λ v. before v || (x == v))
    (λ v l m. ap (λ e. has e v) (elements_more order from to (omega arith) (omega (arith, h))) ∙ has_push (elements_at order (range from to)) x v)
    ∙ mass-put masses before x (not_before n order once from to (omega (arith, h)) at) at.0 (omega (arith, at.1, long)) in
    let here : mass masses (has (elements_at order (range from (from + suc count)))) ≡ mass masses before + mass_of masses x =
    ap (λ k. mass masses (has (elements_at order (range from k)))) next ∙ put in
    let there : mass_before masses order (from + suc count) ≡ mass_before masses order to + mass_of masses x =
    ap (mass_before masses order) next ∙ before_next masses order to (omega (arith, h)) in
    omega (arith, here, there, elements_mass n masses order long once all from count (omega (arith, h)))

-- the mass of the side at a range, and of what comes before it
pub side_mass : (n : ℕ) (masses order : List ℕ) → length masses ≡ n → AreOnce n order → All (IsVertex n) order → (from to : ℕ) → from ≤ to → to ≤ length order →
    mass masses (has (side_at n order (range from to))) + mass_before masses order from ≡ mass_before masses order to
side_mass n masses order long once all from to le within =
    let count = to - from in
    let whole : from + count ≡ to = omega (arith, le) in
    let listed : mass masses (has (side_at n order (range from to))) ≡ mass masses (has (elements_at order (range from to))) =
    mass-agree masses (has (side_at n order (range from to))) (has (elements_at order (range from to))) (λ v l m. has-listed n (has (elements_at order (range from to))) v l (omega (arith, m, long))) in
    let parts : mass masses (has (elements_at order (range from (from + count)))) + mass_before masses order from ≡ mass_before masses order (from + count) =
    elements_mass n masses order long once all from count (omega (arith, le, within)) in
    omega (arith, listed, subst (λ k. mass masses (has (elements_at order (range from k))) + mass_before masses order from ≡ mass_before masses order k) whole parts)

-- all vertices
pub whole_mass : (n : ℕ) (masses order : List ℕ) → length masses ≡ n → AreOnce n order → All (IsVertex n) order → ((v : ℕ) → 1 ≤ v → v ≤ n → has order v ≡ true) →
    mass masses (λ v. true) ≡ mass_before masses order (length order)
whole_mass n masses order long once all every =
    let parts : mass masses (has (elements_at order (range 0 (0 + length order)))) + mass_before masses order 0 ≡ mass_before masses order (0 + length order) =
    elements_mass n masses order long once all 0 (length order) (omega arith) in
    let start : 0 + length order ≡ length order = omega arith in
    let at_end : mass masses (has (elements_at order (range 0 (length order)))) + 0 ≡ mass_before masses order (length order) =
    subst (λ k. mass masses (has (elements_at order (range 0 k))) + 0 ≡ mass_before masses order k) start parts in
    let full : mass masses (λ v. true) ≡ mass masses (has (elements_at order (range 0 (length order)))) =
    mass-agree masses (λ v. true) (has (elements_at order (range 0 (length order)))) (λ v l m. sym (ap (λ xs. has xs v) (take_whole order) ∙ every v l (omega (arith, m, long)))) in
    omega (arith, full, at_end)

-- the balance of the side at a range
pub side_balance : (n : ℕ) (masses order : List ℕ) → length masses ≡ n → AreOnce n order → All (IsVertex n) order → ((v : ℕ) → 1 ≤ v → v ≤ n → has order v ≡ true) → (from to : ℕ) → from ≤ to → to ≤ length order →
    (mass masses (has (side_at n order (range from to))) ≡ range_mass masses order (range from to)) ×
    (mass masses (complement (has (side_at n order (range from to)))) ≡ mass_before masses order (length order) - range_mass masses order (range from to))
side_balance n masses order long once all every from to le within =
    let own = side_mass n masses order long once all from to le within in
    let rest = mass-complement masses (has (side_at n order (range from to))) in
    let total = whole_mass n masses order long once all every in
    (omega (arith, own), omega (arith, own, rest, total))

-- the mass of a longer first part is no less, and no first part has a mass of 2^86 or more
pub before_no_less : (masses order : List ℕ) (k j : ℕ) → k ≤ j → j ≤ length order → mass_before masses order k ≤ mass_before masses order j
before_no_less masses order k zero le within = let z : k ≡ 0 = omega (arith, le) in let e : mass_before masses order k ≡ mass_before masses order 0 = ap (mass_before masses order) z in omega (arith, e)
before_no_less masses order k (suc j) le within = elim (at_or_below k (suc j) le) [
  | inl e ↦ let same : mass_before masses order k ≡ mass_before masses order (suc j) = ap (mass_before masses order) e in omega (arith, same)
  | inr l ↦
      let next : suc j ≡ j + 1 = omega arith in
      let more : mass_before masses order (suc j) ≡ mass_before masses order (j + 1) = ap (mass_before masses order) next in
      omega (arith, more, before_next masses order j (omega (arith, within)), before_no_less masses order k j (omega (arith, l)) (omega (arith, within)))
]
  where
    at_or_below : (a b : ℕ) → a ≤ b → (a ≡ b) ⊎ (a < b)
    at_or_below a b h = grind (arith, h)

bounded_of : (masses : List ℕ) (v : ℕ) → AreMasses masses → 1 ≤ v → v ≤ length masses → mass_of masses v ≤ 2 ^ 64 - 1
bounded_of masses v are l h = omega (arith, All-get_or (λ m. m < 2 ^ 64) masses (v - 1) 0 (omega (arith, l, h)) are.bounded)

pub before_bound : (masses order : List ℕ) (k : ℕ) → AreMasses masses → All (IsVertex (length masses)) order → k ≤ length order → mass_before masses order k ≤ k * (2 ^ 64 - 1)
before_bound masses order zero are all within = omega arith
before_bound masses order (suc k) are all within =
    let next : suc k ≡ k + 1 = omega arith in
    let more : mass_before masses order (suc k) ≡ mass_before masses order (k + 1) = ap (mass_before masses order) next in
    let at : IsVertex (length masses) (get_or order k 0) = All-get_or (IsVertex (length masses)) order k 0 (omega (arith, within)) all in
    omega (arith, more, before_next masses order k (omega (arith, within)), bounded_of masses (get_or order k 0) are at.0 at.1, before_bound masses order k are all (omega (arith, within)))
