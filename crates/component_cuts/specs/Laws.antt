-- The laws of components and minimum cuts, as facts that the functions of the module `laws` state.
use Rattle.std.specs.Prelude.{ℕ, ◌≡◌, ◌-◌, ◌^◌, ◌≤◌, length}
use Rattle.cut_definitions.specs.Graph.{Graph, IsGraph}
use Rattle.cut_definitions.specs.Components.{HasComponents}
use Rattle.cut_definitions.specs.Cuts.{mincuts, value}
use Rattle.component_cuts.specs.Parts.{Parts, AreComponents, unions}

-- in a graph of two or more components the minimum cuts weigh nothing, and are the unions of components without vertex 1
abbrev pub LawOfMinimumCuts : Type 0
LawOfMinimumCuts = (g : Graph) (p : Parts) → IsGraph g → AreComponents g p → 2 ≤ length p.parts → (value g ≡ 0) × (mincuts g ≡ unions p)

-- with c components there are 2^(c-1) - 1 of them
abbrev pub LawOfNumber : Type 0
LawOfNumber = (g : Graph) (p : Parts) → IsGraph g → AreComponents g p → 2 ≤ length p.parts → length (mincuts g) ≡ 2 ^ (length p.parts - 1) - 1

-- there are as many components as vertices that are joined to no lesser vertex
abbrev pub LawOfComponents : Type 0
LawOfComponents = (g : Graph) (p : Parts) → AreComponents g p → HasComponents g (length p.parts)

-- a graph has one number of components
abbrev pub LawOfOneNumber : Type 0
LawOfOneNumber = (g : Graph) (a b : ℕ) → HasComponents g a → HasComponents g b → a ≡ b
