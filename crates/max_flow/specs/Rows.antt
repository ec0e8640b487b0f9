-- How a flow lays out its memory: the rows one after another in one list, and the work arrays of a search.
use Rattle.std.specs.Prelude.{ℕ, ◌≡◌, ◌+◌, ◌≤◌, List, length, map, slice_index, slice_range}
use Rattle.std.specs.List.{range_with_len}
use Rattle.cut_definitions.specs.Graph.{Graph}
use Rattle.vertex_set.specs.Side.{VertexList}
use Rattle.weighted_graph.specs.Rows.{row_of}
use Rattle.max_flow.specs.declared.search.Step.{Step}
use Rattle.region_flow.specs.Marks.{IsAllUnmarked}

-- the row of each vertex begins where that of the one before ends
pub record AreStarts (g : Graph) (starts : List ℕ) : Type 0 where
  pub starts_length : length starts ≡ g.vertices + 2
  pub next : (v : ℕ) → v ≤ g.vertices → slice_index starts (v + 1) ≡ slice_index starts v + length (row_of g v)

-- the row of a vertex in that list
abbrev pub row_within : List ℕ → List ℕ → ℕ → List ℕ
row_within residuals starts v = slice_range residuals (slice_index starts v) (slice_index starts (v + 1))

-- the rows of all vertices from 0 to n
abbrev pub rows_within : ℕ → List ℕ → List ℕ → List (List ℕ)
rows_within n residuals starts = map (row_within residuals starts) (range_with_len 0 (n + 1))

-- the memory of a flow between two calls: places for all rows, no vertex marked
pub record IsLaidOut (n : ℕ) (starts residuals : List ℕ) (marks : List ℕ) (steps : List Step) (source : VertexList) : Type 0 where
  pub starts_length : length starts ≡ n + 2
  pub ascending : (v : ℕ) → v ≤ n → slice_index starts v ≤ slice_index starts (v + 1)
  pub ends : (v : ℕ) → v ≤ n → slice_index starts (v + 1) ≤ length residuals
  pub marks_length : length marks ≡ n + 1
  pub steps_length : length steps ≡ n + 1
  pub source_vertices : source.vertices ≡ n
  pub unmarked : IsAllUnmarked marks
