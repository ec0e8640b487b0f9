-- Going up the way of a search.
use Rattle.std.proofs.Common.{◌≡◌, ℕ, zero, suc, ◌-◌, ◌<◌, ◌≤◌, ⊎_elim, List, get_or, subst, ap, arith}
use Rattle.std.proofs.lemmas.Bool.{cases_lt}
use Rattle.arc_search.specs.Way.{climb, IsUp}

pub up_more : (parents : List ℕ) (last place : ℕ) → IsUp parents last place → 1 ≤ place → IsUp parents last (get_or parents place 0)
up_more parents last place h one = record {
  steps = suc h.steps;
  there = ap (λ (k : ℕ). get_or parents k 0) h.there;
  below = λ k l. ⊎_elim
      (λ (q : k < h.steps). h.below k q)
      (λ (q : h.steps ≤ k). let e : h.steps ≡ k = omega (arith, q, l) in subst (λ (i : ℕ). 1 ≤ climb parents i last) e (omega (arith, h.there, one)))
      (cases_lt k h.steps);
}

-- what holds of the last vertex and goes up holds of each vertex on the way
pub all_the_way : (P : ℕ → Type 0) (order parents : List ℕ) (count : ℕ) → 1 ≤ count → ((j : ℕ) → 1 ≤ j → j < count → get_or parents j 0 < j) →
    ((j : ℕ) → 1 ≤ j → j < count → P (get_or order j 0) → P (get_or order (get_or parents j 0) 0)) → P (get_or order (count - 1) 0) →
    (k : ℕ) → ((i : ℕ) → i < k → 1 ≤ climb parents i (count - 1)) → (climb parents k (count - 1) < count) × P (get_or order (climb parents k (count - 1)) 0)
all_the_way P order parents count some earlier up last zero below = (omega arith, last)
all_the_way P order parents count some earlier up last (suc k) below =
    let rest = all_the_way P order parents count some earlier up last k (λ i l. below i (omega arith)) in
    let one = below k (omega arith) in
    let low = earlier (climb parents k (count - 1)) one rest.0 in
    (omega (arith, low, rest.0), up (climb parents k (count - 1)) one rest.0 rest.1)
