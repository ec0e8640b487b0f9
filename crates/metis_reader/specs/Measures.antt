-- What reading shows of a graph besides its edges: its least degree, its lightest and its heaviest edge.
use Rattle.std.specs.Prelude.{◌≡◌, ◌≤◌, ◌<◌, ◌+◌, ◌==◌, ℕ, zero, suc, if◌then◌else◌, min, max, List, [], ◌∷◌}
use Rattle.std.specs.List.{sum_by}
use Rattle.cut_definitions.specs.declared.edge_list.Edge.{Edge}
use Rattle.cut_definitions.specs.Degrees.{IsLeastDegree}
use Rattle.cut_definitions.specs.Graph.{Graph}
use Rattle.metis_reader.specs.declared.measures.Measures.{Measures}

-- the least weight of an edge, or 2^64 - 1 if there is none
abbrev pub lightest_of : List Edge → ℕ
lightest_of [] = 18446744073709551615
lightest_of (e ∷ edges) = min e.w (lightest_of edges)

-- the greatest weight of an edge, or 0 if there is none
abbrev pub heaviest_of : List Edge → ℕ
heaviest_of [] = 0
heaviest_of (e ∷ edges) = max e.w (heaviest_of edges)

-- these are the measures of the graph; a graph without vertices has no degree, and the measure is 2^64 - 1
pub record AreMeasures (g : Graph) (m : Measures) : Type 0 where
  pub least : 1 ≤ g.vertices → IsLeastDegree g m.least_degree
  pub none : g.vertices ≡ 0 → m.least_degree ≡ 18446744073709551615
  pub lightest : m.lightest ≡ lightest_of g.edges
  pub heaviest : m.heaviest ≡ heaviest_of g.edges

-- The measures while lines are read.

-- the weight of the entries of a vertex: those to greater neighbours, and those to smaller ones, which are mirrored
abbrev pub line_weight : List Edge → List Edge → ℕ → ℕ
line_weight greater lesser v =
    sum_by (λ (e : Edge). if v == e.u then e.w else 0) greater + sum_by (λ (e : Edge). if v == e.v then e.w else 0) lesser

-- the least weight of the first lines, or 2^64 - 1 if there is none
abbrev pub least_of : ℕ → (ℕ → ℕ) → ℕ
least_of zero weights = 18446744073709551615
least_of (suc lines) weights = min (least_of lines weights) (weights (suc lines))

-- the least weight of the finished lines, the weight of the entries before the present line, and the weight of all
-- entries; no line after the present one has an entry
pub record AreLineWeights (lines least before total : ℕ) (weights : ℕ → ℕ) : Type 0 where
  pub least_is : least ≡ least_of lines weights
  pub present : before + weights (suc lines) ≡ total
  pub behind : (v : ℕ) → suc lines < v → weights v ≡ 0
