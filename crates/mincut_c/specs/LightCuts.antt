-- Several cuts below a bound, as a caller reads them.
use Rattle.std.specs.Prelude.{ℕ, ◌≡◌, ◌<◌, List, [], length, slice_index, slice_index_or, map}
use Rattle.std.specs.List.{All}
use Rattle.cut_definitions.specs.Cuts.{IsSide, has}
use Rattle.cut_definitions.specs.Graph.{Graph}
use Rattle.cut_definitions.specs.Members.{AreDifferent}
use Rattle.cut_definitions.specs.Weight.{weight}
use Rattle.least_cut.specs.declared.lightest.LightestCut.{LightestCut}
use Rattle.mincut_c.specs.Rows.{TellsRows}

-- so many weights and rows of bytes tell cuts of a graph, each by its side without the first vertex: each weighs what its
-- entry says, which is below the bound, and no two are the same
pub record ListsCutsBelow (g : Graph) (bound count : ℕ) (weights bytes : List ℕ) : Type 0 where
  pub sides : List (List ℕ)
  pub number : length sides ≡ count
  pub each : All (IsSide g.vertices) sides
  pub weighed : (k : ℕ) → k < count → slice_index weights k ≡ weight g (has (slice_index_or sides k []))
  pub below : (k : ℕ) → k < count → slice_index weights k < bound
  pub different : AreDifferent sides
  pub told : TellsRows g.vertices sides bytes

-- the sides of cuts are over n vertices
abbrev pub AreOver : ℕ → List LightestCut → Type 0
AreOver n cuts = All (λ (c : LightestCut). c.side.vertices ≡ n) cuts

-- an array begins with what some cuts weigh
abbrev pub BeginsWithWeights : List LightestCut → List ℕ → Type 0
BeginsWithWeights cuts weights = (k : ℕ) → k < length cuts → slice_index weights k ≡ slice_index (map (λ (c : LightestCut). c.weight) cuts) k
