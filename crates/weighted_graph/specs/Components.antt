-- One component, and connected graphs.
use Rattle.std.specs.Prelude.{ℕ, ◌≡◌, ◌↔◌}
use Rattle.cut_definitions.specs.Graph.{Graph}
use Rattle.cut_definitions.specs.Components.{IsConnected, HasComponents}

abbrev pub LawOfOneComponent : Type 0
LawOfOneComponent = (g : Graph) (count : ℕ) → HasComponents g count → (count ≡ 1) ↔ IsConnected g
