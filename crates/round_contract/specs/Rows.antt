-- The weights between classes, added up from the rows of their vertices.
use Rattle.std.specs.Prelude.{ℕ, ◌≡◌, ◌≢◌, ◌==◌, ◌+◌, ◌-◌, ◌<◌, ◌≤◌, ◌⊎◌, ◌&&◌, List, [], Result, Ok, Err, length, map, nat_lt, slice_index, if◌then◌else◌}
use Rattle.std.specs.Global.{Vec}
use Rattle.std.specs.List.{sum_by, filter, flat_map, range_with_len}
use Rattle.cut_definitions.specs.declared.edge_list.Edge.{Edge}
use Rattle.cut_definitions.specs.Graph.{Graph}
use Rattle.cut_definitions.specs.Weight.{VertexSet, between}
use Rattle.cut_definitions.specs.Contraction.{label, classes, class}
use Rattle.weighted_graph.specs.declared.graph.Arc.{Arc}

-- a number is that of the first vertex of a class from a vertex on
pub record IsFirst (labels : List ℕ) (c from x : ℕ) : Type 0 where
  pub late : from ≤ x
  pub to_n : x ≤ length labels
  pub is_in : label labels x ≡ c
  pub before : (v : ℕ) → from ≤ v → v < x → label labels v ≢ c

-- a number is 0, and no vertex from a vertex on is in the class
pub record IsNone (labels : List ℕ) (c from x : ℕ) : Type 0 where
  pub zero : x ≡ 0
  pub none : (v : ℕ) → from ≤ v → v ≤ length labels → label labels v ≢ c

abbrev pub IsNext : List ℕ → ℕ → ℕ → ℕ → Type 0
IsNext labels c from x = IsFirst labels c from x ⊎ IsNone labels c from x

-- for each class its first vertex from a vertex on
abbrev pub AreFirst : List ℕ → ℕ → List ℕ → Type 0
AreFirst labels from first = (c : ℕ) → c ≤ classes labels → IsNext labels c from (slice_index first c)

-- for each vertex from one on the next of its class
abbrev pub AreNext : List ℕ → ℕ → List ℕ → Type 0
AreNext labels from next = (v : ℕ) → from ≤ v → v ≤ length labels → IsNext labels (label labels v) (v + 1) (slice_index next v)

-- what the arcs of a row weigh to a class
abbrev pub toward : List ℕ → ℕ → List Arc → ℕ
toward labels b row = sum_by (λ (a : Arc). if label labels a.to == b then a.weight else 0) row

-- the vertices of a class before one
abbrev pub members_before : List ℕ → ℕ → ℕ → VertexSet
members_before labels c from v = label labels v == c && nat_lt v from

-- the edges of the contracted graph from a class to greater ones
abbrev pub class_row : Graph → List ℕ → ℕ → List Edge
class_row g labels c =
    filter (λ (e : Edge). nat_lt 0 e.w) (map (λ b. record { u = c; v = b; w = between g (class labels c) (class labels b) }) (range_with_len (c + 1) (classes labels - c)))

-- the edges of the contracted graph from each class of a run to greater ones, in the order of the classes
abbrev pub run_rows : Graph → List ℕ → ℕ → ℕ → List Edge
run_rows g labels from count = flat_map (class_row g labels) (range_with_len (from + 1) count)

-- the edges that were found, or none
abbrev pub found_edges : {E : Type 0} → Result (Vec Edge) E → List Edge
found_edges (Ok edges) = edges.items
found_edges (Err _) = []

-- for each class its first vertex, and for each vertex the next one of its class
pub record AreMembers (labels first next : List ℕ) : Type 0 where
  pub classes_long : length first ≡ classes labels + 1
  pub vertices_long : length next ≡ length labels + 1
  pub first_of_each : AreFirst labels 1 first
  pub next_of_each : AreNext labels 1 next

-- the edges to a number of classes from one on, by what each weighs
abbrev pub edges_by : List ℕ → ℕ → ℕ → List Edge
edges_by sums c count = filter (λ (e : Edge). nat_lt 0 e.w) (map (λ b. record { u = c; v = b; w = slice_index sums b }) (range_with_len (c + 1) count))
