-- The tree of a search: the vertices that it reached, in the order in which it did, each with the one from which it was reached.
use Rattle.std.specs.Prelude.{ℕ, ◌≡◌, nat_lt, ◌+◌, ◌-◌, ◌<◌, ◌≤◌, ◌⊎◌, List, length, slice_index, slice_index_or, slice_set}
use Rattle.std.specs.List.{All}
use Rattle.cut_definitions.specs.Graph.{Graph}
use Rattle.cut_definitions.specs.Weight.{VertexSet}
use Rattle.weighted_graph.specs.Rows.{row_of}
use Rattle.max_flow.specs.declared.search.Ends.{Ends}
use Rattle.max_flow.specs.declared.search.Step.{Step}
use Rattle.region_flow.specs.Residual.{edge_of}
use Rattle.region_flow.specs.Closed.{residual_on, IsAlong}
use Rattle.region_flow.specs.Marks.{IsAllUnmarked, order_mark, unmarked}

-- the step at a place of the order
abbrev pub step_at : List Step → ℕ → Step
step_at steps j = slice_index_or steps j (record { vertex = 0; parent = 0; edge = 0; bottleneck = 0 })

-- the work arrays as each search finds them
pub record IsReady (n : ℕ) (marks : List ℕ) (steps : List Step) : Type 0 where
  pub unmarked : IsAllUnmarked marks
  pub marks_length : length marks ≡ n + 1
  pub steps_length : length steps ≡ n + 1

-- the ends are vertices of 1 to n
pub record AreWithin (n : ℕ) (ends : Ends) : Type 0 where
  pub s_from_one : 1 ≤ ends.s
  pub s_to_n : ends.s ≤ n
  pub t_to_n : ends.t ≤ n

-- the vertices that have a mark
abbrev pub seen : List ℕ → VertexSet
seen marks v = nat_lt 0 (order_mark marks v)

-- the marks of the vertices are those of an order
pub record IsMarking (n : ℕ) (marks : List ℕ) (steps : List Step) (count : ℕ) : Type 0 where
  pub marks_length : length marks ≡ n + 1
  pub steps_length : length steps ≡ n + 1
  pub rest : unmarked marks + count ≡ n + 1
  pub from_one : (j : ℕ) → j < count → 1 ≤ (step_at steps j).vertex
  pub to_n : (j : ℕ) → j < count → (step_at steps j).vertex ≤ n
  pub placed : (j : ℕ) → j < count → order_mark marks (step_at steps j).vertex ≡ j + 1
  pub at_most : (v : ℕ) → 0 < order_mark marks v → order_mark marks v ≤ count
  pub stands : (v : ℕ) → 0 < order_mark marks v → (step_at steps (order_mark marks v - 1)).vertex ≡ v

-- a vertex was reached from an earlier one along an edge that can carry more
pub record IsReached (g : Graph) (toward : List ℕ) (steps : List Step) (j : ℕ) : Type 0 where
  pub earlier : (step_at steps j).parent < j
  pub some : 1 ≤ (step_at steps j).bottleneck
  pub narrows : (step_at steps j).bottleneck ≤ (step_at steps (step_at steps j).parent).bottleneck
  pub edge : (step_at steps j).edge < length g.edges
  pub along : IsAlong (edge_of g.edges (step_at steps j).edge) (slice_index toward (step_at steps j).edge)
      (step_at steps (step_at steps j).parent).vertex (step_at steps j).vertex (step_at steps j).bottleneck

-- the tree: its order is marked, and each step but the first leads back to an earlier one
pub record IsTree (g : Graph) (toward marks : List ℕ) (steps : List Step) (count : ℕ) : Type 0 where
  pub marking : IsMarking g.vertices marks steps count
  pub some : 1 ≤ count
  pub wide : 1 ≤ (step_at steps 0).bottleneck
  pub reached : (j : ℕ) → 1 ≤ j → j < count → IsReached g toward steps j

-- every vertex to which an arc of the row of v can carry more is marked
abbrev pub IsExpanded : Graph → List ℕ → List ℕ → ℕ → Type 0
IsExpanded g toward marks v = All (λ a. 0 < residual_on v toward a → 0 < order_mark marks a.to) (row_of g v)

-- a step is put at the end of the order, unless nothing can be carried there
abbrev pub Reaches : List ℕ → List Step → ℕ → Step → List ℕ → List Step → ℕ → Type 0
Reaches marks steps count step marks' steps' count' =
    ((1 ≤ step.bottleneck) × (order_mark marks step.vertex ≡ 0)
    × (marks' ≡ slice_set marks step.vertex (count + 1)) × (steps' ≡ slice_set steps count step) × (count' ≡ count + 1))
    ⊎ ((step.bottleneck ≡ 0) × (marks' ≡ marks) × (steps' ≡ steps) × (count' ≡ count))

-- a tree goes on from another
pub record Extends (g : Graph) (toward marks : List ℕ) (steps : List Step) (count : ℕ) (marks' : List ℕ) (steps' : List Step) (count' : ℕ) : Type 0 where
  pub tree : IsTree g toward marks' steps' count'
  pub more : count ≤ count'
  pub steps_kept : (j : ℕ) → j < count → step_at steps' j ≡ step_at steps j
  pub marks_kept : (v : ℕ) → 0 < order_mark marks v → 0 < order_mark marks' v

-- the tree has its first vertex, and every arc is followed if t is not reached
pub record IsSearched (g : Graph) (toward : List ℕ) (s t : ℕ) (marks : List ℕ) (steps : List Step) (count : ℕ) : Type 0 where
  pub tree : IsTree g toward marks steps count
  pub first : (step_at steps 0).vertex ≡ s
  pub done : order_mark marks t ≡ 0 → (j : ℕ) → j < count → IsExpanded g toward marks (step_at steps j).vertex

-- all marks are those of the steps
pub record IsListed (marks : List ℕ) (steps : List Step) (count : ℕ) : Type 0 where
  pub few : count ≤ length steps
  pub within : (j : ℕ) → j < count → (step_at steps j).vertex < length marks
  pub at_most : (v : ℕ) → 0 < order_mark marks v → order_mark marks v ≤ count
  pub stands : (v : ℕ) → 0 < order_mark marks v → (step_at steps (order_mark marks v - 1)).vertex ≡ v

-- the steps up to a place lead back to the first
pub record IsPath (g : Graph) (toward : List ℕ) (steps : List Step) (place : ℕ) : Type 0 where
  pub inside : place < length steps
  pub reached : (j : ℕ) → 1 ≤ j → j ≤ place → IsReached g toward steps j
  pub distinct : (i j : ℕ) → i ≤ place → j ≤ place → (step_at steps i).vertex ≡ (step_at steps j).vertex → i ≡ j
