-- Sets of one vertex, and the weight of no vertices.
use Rattle.std.proofs.Common.{◌≡◌, ℕ, ◌≤◌, ⊎_elim, eqb, refl, arith, [], true, false}
use Rattle.std.specs.Prelude.{◌≢◌}
use Rattle.std.proofs.lemmas.Bool.{cases_eq, eq-eqb, ne_eqb, not_from_false, eqb-true}
use Rattle.cut_definitions.specs.Cuts.{has}
use Rattle.cut_definitions.specs.Graph.{Graph}
use Rattle.cut_definitions.specs.Scan.{single}
use Rattle.cut_definitions.specs.Weight.{HasVertex, IsCut, weight, VertexSet}
use Rattle.cut_definitions.proofs.Sums.{sum_by-none}
use Rattle.cut_definitions.proofs.WeightLaws.{cut_term}

-- one vertex of several is a cut
pub single_cut : (n v : ℕ) → 2 ≤ n → 1 ≤ v → v ≤ n → IsCut n (single v)
single_cut n v two one to_n =
    let here : HasVertex n (single v) = record { vertex = v; from_one = one; to_n = to_n; is_in = eq-eqb v v refl } in
    ⊎_elim
    (λ (e : v ≡ 1). record { some_in = here; some_out = record { vertex = 2; from_one = omega arith; to_n = two; is_in = not_from_false (eqb v 2) (ne_eqb v 2 (λ q. absurd (omega arith))) } })
    (λ (e : v ≢ 1). record { some_in = here; some_out = record { vertex = 1; from_one = omega arith; to_n = omega arith; is_in = not_from_false (eqb v 1) (ne_eqb v 1 e) } })
    (cases_eq v 1)

-- no vertices weigh nothing
pub weight_none : (g : Graph) → weight g (has []) ≡ 0
weight_none g = sum_by-none (cut_term (has [])) (λ e. refl) g.edges

-- a set that lacks a vertex has no vertex of the set of that one alone
pub single_out : (s : VertexSet) (x v : ℕ) → s x ≡ false → single x v ≡ true → s v ≡ false
single_out s x v out e = let same : x ≡ v = eqb-true x v e in rw (← same) out

pub out_at : (p : VertexSet) (y v : ℕ) → p y ≡ false → eqb y v ≡ true → p v ≡ false
out_at p y v h e = let same : y ≡ v = eqb-true y v e in rw (← same) h
