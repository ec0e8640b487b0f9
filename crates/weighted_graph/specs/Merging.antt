-- Edges between classes, before and after equal pairs are merged.
use Rattle.std.specs.Prelude.{ℕ, Bool, ◌==◌, ◌&&◌, ◌+◌, ◌^◌, ◌<◌, ◌≤◌, ◌≡◌, ◌⊎◌, length, slice_index_or, List, [], ◌∷◌, min, max, if◌then◌else◌}
use Rattle.std.specs.List.{All, sum_by}
use Rattle.std.specs.List.Sorted.{IsSortedByKey}
use Rattle.std.specs.Ordering.{nat_cmp, ordering_then}
use Rattle.cut_definitions.specs.declared.edge_list.Edge.{Edge}
use Rattle.cut_definitions.specs.Contraction.{label}
use Rattle.cut_definitions.specs.Graph.{IsEdgeWithin}

-- what an edge weighs for a test of pairs
abbrev pub term : (ℕ → ℕ → Bool) → Edge → ℕ
term f e = if f e.u e.v then e.w else 0

-- what an edge weighs between two vertices, the lesser first
abbrev pub pair_term : ℕ → ℕ → Edge → ℕ
pair_term a b = term (λ u v. (u == a) && (v == b))

-- what the edges weigh between two vertices, the lesser first
abbrev pub pair_weight : List Edge → ℕ → ℕ → ℕ
pair_weight es a b = sum_by (pair_term a b) es

-- an edge between the classes of its ends, if these are two
abbrev pub between_classes : List ℕ → Edge → List Edge
between_classes labels e =
    if label labels e.u == label labels e.v then []
    else record { u = min (label labels e.u) (label labels e.v); v = max (label labels e.u) (label labels e.v); w = e.w } ∷ []

-- each edge comes before the next, or has the same ends
abbrev pub AscendByEnds : List Edge → Type 0
AscendByEnds es = (k : ℕ) (d : Edge) → k + 1 < length es →
    ((slice_index_or es k d).u < (slice_index_or es (k + 1) d).u)
    ⊎ (((slice_index_or es k d).u ≡ (slice_index_or es (k + 1) d).u) × ((slice_index_or es k d).v ≤ (slice_index_or es (k + 1) d).v))

-- edges in order that can be merged to a list of edges on the vertices 1 to n
pub record AreMergeable (n : ℕ) (es : List Edge) : Type 0 where
  pub within : All (IsEdgeWithin n) es
  pub ascending : AscendByEnds es
  pub few_vertices : n ≤ 4194304
  pub few_edges : length es ≤ 16777216
  pub total : sum_by (λ (e : Edge). e.w) es ≤ 2 ^ 61

-- the order of edges by which they are sorted
abbrev pub IsSortedByEnds : List Edge → Type 0
IsSortedByEnds es = IsSortedByKey (λ (e : Edge). (e.u, e.v)) (λ (p q : ℕ × ℕ). ordering_then (nat_cmp p.0 q.0) (nat_cmp p.1 q.1)) es
