-- Connected graphs, by the value, and by the number of components.
use Rattle.std.proofs.Common.{◌≡◌, ℕ, ◌<◌, ◌≤◌, arith}
use Rattle.std.specs.Prelude.{◌↔◌}
use Rattle.cut_definitions.specs.Components.{IsConnected, HasComponents}
use Rattle.cut_definitions.specs.Graph.{Graph, IsGraph}
use Rattle.cut_definitions.specs.Cuts.{value}
use Rattle.cut_definitions.proofs.Bridge.{value-le_cut}
use Rattle.weighted_graph.proofs.OneComponent.{law_of_one_component}

-- a graph whose value is above 0 is connected
pub connected_by_value : (g : Graph) → IsGraph g → 2 ≤ g.vertices → 1 ≤ value g → IsConnected g
connected_by_value g ok two some = record { some_vertex = omega arith; each_cut = λ s cut. omega (arith, some, value-le_cut g ok s cut) }

-- a graph with two or more vertices and fewer than two components is connected
pub connected_by_count : (g : Graph) (count : ℕ) → 2 ≤ g.vertices → HasComponents g count → (count ≡ 0) ↔ (g.vertices ≡ 0) → count < 2 → IsConnected g
connected_by_count g count two counted none few =
    let some : (count ≡ 0) → ⊥ = λ is. omega (arith, none.0 is, two) in
    let one : count ≡ 1 = omega (arith, some, few) in
    (law_of_one_component g count counted).0 one
