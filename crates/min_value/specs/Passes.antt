-- Passes: what leads from a graph to a smaller one, and what such a step keeps.
use Rattle.std.specs.Prelude.{ℕ, ◌≡◌, ◌<◌, ◌≤◌, List, min, nat_lt, if◌then◌else◌}
use Rattle.cut_definitions.specs.Graph.{Graph}
use Rattle.cut_definitions.specs.Cuts.{value}
use Rattle.weighted_graph.specs.ContractionLaws.{IsLabelled, PartsNoClass}
use Rattle.min_value.specs.Kernels.{IsKept}

-- what a bound and a graph tell together: the lesser of the bound and the value, or the bound where there are fewer than two vertices
abbrev pub told : ℕ → Graph → ℕ
told bound g = if nat_lt g.vertices 2 then bound else min bound (value g)

-- a step keeps the value: a lower bound and a smaller graph tell what the bound and the graph told
pub record KeepsValue (g : Graph) (bound : ℕ) (small : Graph) (low : ℕ) : Type 0 where
  pub at_most : low ≤ bound
  pub same : told low small ≡ told bound g

-- a step keeps all minimum cuts: the value is the same, and lifted by the labels the minimum cuts are
abbrev pub KeepsAllCuts : Graph → Graph → List ℕ → Type 0
KeepsAllCuts g small labels = IsKept g (value g) small labels

-- what each contraction has to show: no minimum cut parts a class if the value is below a limit
pub record IsStep (g : Graph) (limit : ℕ) (labels : List ℕ) : Type 0 where
  pub labelled : IsLabelled g labels
  pub safe : value g < limit → PartsNoClass g labels
