-- A smaller graph of the same value is connected too.
use Rattle.std.proofs.Common.{◌≡◌, ℕ, zero, suc, ◌<◌, ◌≤◌, ⊎_elim, map, arith}
use Rattle.std.proofs.lemmas.Bool.{cases_lt}
use Rattle.cut_definitions.specs.Graph.{Graph, IsGraph}
use Rattle.cut_definitions.specs.Weight.{weight}
use Rattle.cut_definitions.specs.Cuts.{has, sides, least, value}
use Rattle.cut_definitions.specs.Components.{IsConnected}
use Rattle.cut_definitions.proofs.Bridge.{IsCut-has, value-le_cut}
use Rattle.cut_definitions.proofs.Values.{value_is_weight}

-- a value of 1 or more is that of a graph with vertices
some_of_value : (g : Graph) → 1 ≤ value g → 1 ≤ g.vertices
unfolding value sides
some_of_value g far = ⊎_elim (λ (l : g.vertices < 1). absurd (none g.vertices (omega arith) far)) (λ (l : 1 ≤ g.vertices). l) (cases_lt g.vertices 1)
  where
    none : (n : ℕ) → n ≡ 0 → 1 ≤ least (map (λ s. weight g (has s)) (sides n)) → ⊥
    none zero e far = omega (arith, far)
    none (suc n) e far = omega arith

pub still_connected : (g small : Graph) → IsGraph g → IsGraph small → 2 ≤ g.vertices → IsConnected g → value small ≡ value g → IsConnected small
still_connected g small ok small_ok two connected same =
    let v = value_is_weight g two in
    let far : 1 ≤ value g = omega (arith, connected.each_cut (has v.0) (IsCut-has g.vertices v.0 v.1), v.2) in
    record { some_vertex = some_of_value small (omega arith); each_cut = λ s cut. omega (arith, far, same, value-le_cut small small_ok s cut) }
