-- Connected graphs as graphs of one component.
use Rattle.std.proofs.Common.{◌≡◌, ℕ, ◌<◌, ◌≤◌, ⊎_elim, true, false, not, [], ◌∷◌, eqb, refl, sym, ◌∙◌, ap, arith}
use Rattle.std.proofs.lemmas.Bool.{cases_Bool, cases_eq, eq-eqb, eqb-true, false≢true, or_cases, or_left}
use Rattle.cut_definitions.specs.Components.{IsConnected, HasComponents}
use Rattle.cut_definitions.specs.Graph.{Graph}
use Rattle.cut_definitions.specs.Cuts.{has}
use Rattle.cut_definitions.specs.Weight.{VertexSet, weight, IsCut}
use Rattle.component_cuts.proofs.Counted.{law_of_one_number}

only_one : (v : ℕ) → has (1 ∷ []) v ≡ true → v ≡ 1
only_one v h = sym (eqb-true 1 v (⊎_elim (λ (e : eqb 1 v ≡ true). e) (λ (e : false ≡ true). absurd (false≢true e)) (or_cases (eqb 1 v) false h)))

not_one : (v : ℕ) → has (1 ∷ []) v ≡ false → 1 ≤ v → 1 < v
not_one v h one =
    ⊎_elim
    (λ (e : v ≡ 1). absurd (false≢true (sym h ∙ or_left (eqb 1 v) false (eq-eqb 1 v (sym e)))))
    (λ ne. omega arith)
    (cases_eq v 1)

apart : (g : Graph) → IsConnected g → (s : VertexSet) (u v : ℕ) → 1 ≤ u → u ≤ g.vertices → 1 ≤ v → v ≤ g.vertices → weight g s ≡ 0 → s u ≡ true → s v ≡ false → ⊥
apart g connected s u v u1 un v1 vn zero here there =
    let cut : IsCut g.vertices s = record {
      some_in = record { vertex = u; from_one = u1; to_n = un; is_in = here };
      some_out = record { vertex = v; from_one = v1; to_n = vn; is_in = ap not there };
    } in
    let far = connected.each_cut s cut in
    omega arith

-- a connected graph has one component
pub one_of_connected : (g : Graph) → IsConnected g → HasComponents g 1
one_of_connected g connected = record {
  firsts = 1 ∷ [];
  ascending = (omega arith, connected.some_vertex, tt);
  counted = refl;
  first = λ v v1 vn is u u1 less. absurd (omega (arith, only_one v is));
  later = λ v v1 vn none. (
    1,
    omega arith,
    not_one v none v1,
    λ s zero. ⊎_elim
        (λ (a : s 1 ≡ true). ⊎_elim
        (λ (b : s v ≡ true). a ∙ sym b)
        (λ (b : s v ≡ false). absurd (apart g connected s 1 v (omega arith) connected.some_vertex v1 vn zero a b))
        (cases_Bool (s v)))
        (λ (a : s 1 ≡ false). ⊎_elim
        (λ (b : s v ≡ true). absurd (apart g connected s v 1 v1 vn (omega arith) connected.some_vertex zero b a))
        (λ (b : s v ≡ false). a ∙ sym b)
        (cases_Bool (s v)))
        (cases_Bool (s 1)),
  );
}

-- a connected graph has no two components
pub none_apart : (g : Graph) (count : ℕ) → IsConnected g → HasComponents g count → 2 ≤ count → ⊥
none_apart g count connected has several = omega (arith, law_of_one_number g count 1 has (one_of_connected g connected), several)
