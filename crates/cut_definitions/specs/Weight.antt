-- Sets of vertices, and what they weigh. A set is a test: it says of each vertex whether it is in the set.
use Rattle.std.specs.Prelude.{ℕ, Bool, not, ◌&&◌, ◌||◌, if◌then◌else◌, ◌≤◌, IsTrue}
use Rattle.std.specs.List.{sum_by}
use Rattle.cut_definitions.specs.declared.edge_list.Edge.{Edge}
use Rattle.cut_definitions.specs.Graph.{Graph}

abbrev pub VertexSet : Type 0
VertexSet = ℕ → Bool

-- a set separates two vertices if it has exactly one of them
abbrev pub parts : VertexSet → ℕ → ℕ → Bool
parts s u v = if s u then not (s v) else s v

-- the weight of a set: the sum of the weights of the edges with exactly one end in it
abbrev pub weight : Graph → VertexSet → ℕ
weight g s = sum_by (λ (e : Edge). if parts s e.u e.v then e.w else 0) g.edges

-- two sets join two vertices if one of these is in one set and the other in the other
abbrev pub joins : VertexSet → VertexSet → ℕ → ℕ → Bool
joins s t u v = s u && t v || t u && s v

-- the weight between two disjoint sets: that of the edges with one end in each
abbrev pub between : Graph → VertexSet → VertexSet → ℕ
between g s t = sum_by (λ (e : Edge). if joins s t e.u e.v then e.w else 0) g.edges

abbrev pub complement : VertexSet → VertexSet
complement s v = not (s v)

abbrev pub both : VertexSet → VertexSet → VertexSet
both s t v = s v && t v

abbrev pub either : VertexSet → VertexSet → VertexSet
either s t v = s v || t v

abbrev pub minus : VertexSet → VertexSet → VertexSet
minus s t v = s v && not (t v)

abbrev pub neither : VertexSet → VertexSet → VertexSet
neither s t v = not (s v) && not (t v)

-- some vertex of 1 to n is in the set
pub record HasVertex (n : ℕ) (s : VertexSet) : Type 0 where
  pub vertex : ℕ
  pub from_one : 1 ≤ vertex
  pub to_n : vertex ≤ n
  pub is_in : IsTrue (s vertex)

-- a set that is neither empty nor everything
pub record IsCut (n : ℕ) (s : VertexSet) : Type 0 where
  pub some_in : HasVertex n s
  pub some_out : HasVertex n (complement s)

-- a cut that no cut undercuts
pub record IsMinimumCut (g : Graph) (s : VertexSet) : Type 0 where
  pub is_cut : IsCut g.vertices s
  pub least : (t : VertexSet) → IsCut g.vertices t → weight g s ≤ weight g t
