-- What a sweep knows of the value of a graph.
use Rattle.std.specs.Prelude.{ℕ, ◌≡◌, ◌-◌, ◌%◌, ◌<◌, ◌≤◌, ◌^◌, List, min, slice_index}
use Rattle.std.specs.List.{All}
use Rattle.cut_definitions.specs.declared.edge_list.Edge.{Edge}
use Rattle.cut_definitions.specs.Graph.{Graph}
use Rattle.cut_definitions.specs.Weight.{VertexSet, weight, HasVertex}
use Rattle.cut_definitions.specs.Cuts.{value}
use Rattle.cut_definitions.specs.Scan.{single}
use Rattle.region_flow.specs.Regions.{IsInside}
use Rattle.least_cut.specs.declared.sweep.Swept.{Swept}
use Rattle.least_cut.specs.declared.sweep.Swept.TheVariants.{Whole, Part}

-- a number that no nonempty set inside a region undercuts
abbrev pub IsBelowRegions : Graph → List ℕ → ℕ → Type 0
IsBelowRegions g labels bound = (r : ℕ) (s : VertexSet) → IsInside labels r s → HasVertex g.vertices s → bound ≤ weight g s

-- some vertex has entered; the best is at most the bound, and at least the lesser of the bound and the value; and a number
-- that neither the best nor any nonempty set inside a region undercuts is at most the value
pub record IsSwept (g : Graph) (bound : ℕ) (labels : List ℕ) (best : ℕ) : Type 0 where
  pub entered : ℕ
  pub from_one : 1 ≤ entered
  pub to_n : entered ≤ g.vertices
  pub inside : slice_index labels entered ≡ 0
  pub at_most : best ≤ bound
  pub fair : min bound (value g) ≤ best
  pub below : (low : ℕ) → low ≤ best → IsBelowRegions g labels low → low ≤ value g

-- what a sweep that may be cut short tells: the lesser of the bound and the value; or, only where there is a limit on its
-- work, a number between that and the bound
abbrev pub TellsLeast : Graph → ℕ → ℕ → Swept → Type 0
TellsLeast g bound most (Whole weight) = weight ≡ min bound (value g)
TellsLeast g bound most (Part weight) = (min bound (value g) ≤ weight) × (weight ≤ bound) × (most < 2 ^ 64 - 1)

-- each vertex has an even degree
abbrev pub HasEvenDegrees : Graph → Type 0
HasEvenDegrees g = (v : ℕ) → 1 ≤ v → v ≤ g.vertices → weight g (single v) % 2 ≡ 0

-- no edge is heavier
abbrev pub AreLight : ℕ → List Edge → Type 0
AreLight heavy edges = All (λ (e : Edge). e.w ≤ heavy) edges
