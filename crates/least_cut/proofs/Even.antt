-- Where all degrees are even, each cut has an even weight.
use Rattle.std.proofs.Common.{◌≡◌, ℕ, ◌+◌, ◌<◌, ◌≤◌, ⊎_elim, true, false, ◌&&◌, List, [], ◌∷◌, eqb, refl, sym, subst, arith}
use Rattle.std.specs.Prelude.{◌%◌, ◌≢◌}
use Rattle.std.proofs.lemmas.Bool.{cases_eq, cases_Bool, eqb-true}
use Rattle.cut_definitions.specs.Components.{IsConnected}
use Rattle.cut_definitions.specs.Cuts.{has, value, IsAscendingWithin}
use Rattle.cut_definitions.specs.Graph.{Graph}
use Rattle.cut_definitions.specs.Scan.{single}
use Rattle.cut_definitions.specs.Weight.{weight}
use Rattle.cut_definitions.proofs.Bridge.{has_low, IsCut-has}
use Rattle.cut_definitions.proofs.Values.{value_is_weight}
use Rattle.cut_definitions.proofs.WeightLaws.{weight-apart}
use Rattle.cut_definitions.proofs.Singles.{weight_none}
use Rattle.least_cut.specs.Sweep.{HasEvenDegrees}

pub even_more : (g : Graph) (v : ℕ) → ((u : ℕ) → 1 ≤ u → u < v → weight g (single u) % 2 ≡ 0) → weight g (single v) % 2 ≡ 0 → (u : ℕ) → 1 ≤ u → u < v + 1 → weight g (single u) % 2 ≡ 0
even_more g v before here u one l =
    ⊎_elim
    (λ (e : u ≡ v). subst (λ (x : ℕ). weight g (single x) % 2 ≡ 0) (sym e) here)
    (λ (ne : u ≢ v). before u one (omega arith))
    (cases_eq u v)

-- a vertex before all of a list is not in it
pub alone : (v n : ℕ) (vs : List ℕ) → IsAscendingWithin (v + 1) n vs → (u : ℕ) → (single v u && has vs u) ≡ false
alone v n vs above u =
    ⊎_elim
    (λ (t : eqb v u ≡ true). let out : has vs u ≡ false = has_low (v + 1) n u vs above (omega (arith, eqb-true v u t)) in grind (arith, out, t))
    (λ (f : eqb v u ≡ false). grind (arith, f))
    (cases_Bool (eqb v u))

even_list : (g : Graph) → HasEvenDegrees g → (low : ℕ) (vs : List ℕ) → 1 ≤ low → IsAscendingWithin low g.vertices vs → weight g (has vs) % 2 ≡ 0
even_list g even low [] one ascending = rw (weight_none g) refl
even_list g even low (v ∷ vs) one ascending =
    let apart = weight-apart g (single v) (has vs) (alone v g.vertices vs ascending.2) in
    let here = even v (omega (arith, ascending.0)) ascending.1 in
    let rest = even_list g even (v + 1) vs (omega arith) ascending.2 in
    omega (arith, apart, here, rest)

pub value_of_even : (g : Graph) → 2 ≤ g.vertices → HasEvenDegrees g → IsConnected g → 2 ≤ value g
value_of_even g two even connected =
    let v = value_is_weight g two in
    let is_even = even_list g even 2 v.0 (omega arith) v.1.ascending in
    omega (arith, connected.each_cut (has v.0) (IsCut-has g.vertices v.0 v.1), v.2, is_even)
