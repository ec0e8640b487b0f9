-- A cut that a sweep has found.
use Rattle.std.specs.Prelude.{ℕ, ◌≡◌, ◌<◌, Option, None, Some, IfSome}
use Rattle.std.specs.List.{Contains}
use Rattle.cut_definitions.specs.Graph.{Graph}
use Rattle.cut_definitions.specs.Weight.{weight}
use Rattle.cut_definitions.specs.Cuts.{IsSide, has, mincuts, side_of, value}
use Rattle.cut_definitions.specs.Scan.{single}
use Rattle.vertex_set.specs.Side.{VertexList}
use Rattle.least_cut.specs.declared.lightest.LightestCut.{LightestCut}

-- the side of a cut, and what that weighs
pub record IsCutFound (g : Graph) (c : LightestCut) : Type 0 where
  pub over : c.side.vertices ≡ g.vertices
  pub side : IsSide g.vertices c.side.members
  pub weighs : c.weight ≡ weight g (has c.side.members)

-- a cut that weighs less than a bound, if there is one
pub record IsFoundBelow (g : Graph) (bound : ℕ) (found : Option LightestCut) : Type 0 where
  pub cut : IfSome found (IsCutFound g)
  pub less : IfSome found (λ c. c.weight < bound)

-- the value of a graph, and the side of one of its minimum cuts
pub record IsLightestCut (g : Graph) (c : LightestCut) : Type 0 where
  pub weight : c.weight ≡ value g
  pub over : c.side.vertices ≡ g.vertices
  pub minimum : Contains (mincuts g) c.side.members

-- the side that parts a vertex from all others
pub record IsVertexAlone (n v : ℕ) (s : VertexList) : Type 0 where
  pub over : s.vertices ≡ n
  pub side : s.members ≡ side_of n (single v)

-- the weight of a cut, or a bound where there is none
abbrev pub limit_of : Option LightestCut → ℕ → ℕ
limit_of None bound = bound
limit_of (Some c) bound = c.weight
