-- What contraction leaves.
use Rattle.std.specs.Prelude.{ℕ, ◌≡◌, ◌+◌, ◌<◌, ◌≤◌, List, MatchOption, length, min, nat_lt, if◌then◌else◌}
use Rattle.cut_definitions.specs.Graph.{Graph}
use Rattle.cut_definitions.specs.Contraction.{RespectsClasses}
use Rattle.cut_definitions.specs.Cuts.{value}
use Rattle.cut_definitions.specs.Weight.{VertexSet, weight}
use Rattle.forest_contraction.specs.declared.shrinking.Contracted.{Contracted}
use Rattle.forest_contraction.specs.declared.tying.Ties.{Ties}

-- labels, one for each vertex, whose classes no set parts that weighs less than a bound
pub record AreLabelsTied (g : Graph) (bound : ℕ) (labels : List ℕ) : Type 0 where
  pub long : length labels ≡ g.vertices
  pub tied : (s : VertexSet) → weight g s < bound → RespectsClasses g.vertices labels s

-- classes that are tied for one more than a bound
pub record AreTiesAbove (g : Graph) (bound : ℕ) (t : Ties) : Type 0 where
  pub one_more : t.bound ≡ bound + 1
  pub tied : AreLabelsTied g t.bound t.labels

-- classes that are tied for a bound above the value, so that no minimum cut parts one
pub record AreTies (g : Graph) (t : Ties) : Type 0 where
  pub above : value g < t.bound
  pub tied : AreLabelsTied g t.bound t.labels

-- a number is the lesser of a bound and the value of a graph, or the bound where that has one vertex or none
abbrev pub IsLesser : ℕ → ℕ → Graph → Type 0
IsLesser whole bound g = whole ≡ (if nat_lt g.vertices 2 then bound else min bound (value g))

-- a bound that is no greater, and tells as much
pub record IsLowered (g : Graph) (bound low : ℕ) : Type 0 where
  pub at_most : low ≤ bound
  pub same : (whole : ℕ) → IsLesser whole bound g → IsLesser whole low g

-- a bound that is no greater, and tells as much, or tells with a smaller graph what the bound told with the graph
pub record IsContracted (g : Graph) (bound : ℕ) (c : Contracted) : Type 0 where
  pub at_most : c.bound ≤ bound
  pub left : MatchOption c.list (IsLowered g bound c.bound) (λ (small : Graph). (whole : ℕ) → IsLesser whole bound g → IsLesser whole c.bound small)

-- the value is the lesser of a bound and the value of the smaller graph, or the bound where that has one vertex; where there is none it is at most the bound
abbrev pub Tells : Graph → Contracted → Type 0
Tells g c = MatchOption c.list (value g ≤ c.bound) (λ (small : Graph). IsLesser (value g) c.bound small)
