-- What lies between the parts of a region, counted by the rows of the listed vertices.
use Rattle.std.specs.Prelude.{ℕ, Bool, ◌≡◌, ◌+◌, ◌<◌, ◌≤◌, ◌&&◌, ◌||◌, not, if◌then◌else◌, nat_lt, List, slice_index}
use Rattle.std.specs.List.{sum_by}
use Rattle.cut_definitions.specs.declared.edge_list.Edge.{Edge}
use Rattle.cut_definitions.specs.Graph.{Graph}
use Rattle.cut_definitions.specs.Weight.{VertexSet, between}
use Rattle.cut_definitions.specs.Chain.{one_part}
use Rattle.weighted_graph.specs.declared.graph.Arc.{Arc}
use Rattle.region_flow.specs.Parted.{later_parts}

-- an edge from v in one set to u in another counts at v: where v is in the second set, or u is not listed
abbrev pub counts_at : VertexSet → VertexSet → VertexSet → ℕ → ℕ → Bool
counts_at listed s t v u = t v && s u || (s v && t u && not (listed u))

-- what an arc of the row of v adds to the weight between two sets
abbrev pub arc_adds : VertexSet → VertexSet → VertexSet → ℕ → Arc → ℕ
arc_adds listed s t v a = if counts_at listed s t v a.to then a.weight else 0

-- what the rows of some vertices make of the weight between two sets
abbrev pub weighed_by : Graph → VertexSet → VertexSet → VertexSet → VertexSet → ℕ
weighed_by g listed done s t =
    sum_by (λ (e : Edge). if done e.u && counts_at listed s t e.u e.v || (done e.v && counts_at listed s t e.v e.u) then e.w else 0) g.edges

-- listed vertices of parts up to one
abbrev pub listed_below : List ℕ → ℕ → VertexSet
listed_below numbers i v = nat_lt 0 (slice_index numbers v) && nat_lt (slice_index numbers v) i

-- for each part below the count what the rows of some vertices make of the weight to all later parts, and to the next
pub record AreWeighed (g : Graph) (listed done : VertexSet) (count : ℕ) (part : ℕ → ℕ) (later next : List ℕ) : Type 0 where
  pub to_later : (i : ℕ) → i < count → slice_index later i ≡ weighed_by g listed done (one_part part i) (later_parts part (i + 1))
  pub to_next : (i : ℕ) → i < count → slice_index next i ≡ weighed_by g listed done (one_part part i) (one_part part (i + 1))

-- what lies between each inner part and all later ones, and between it and the next
pub record AreWeights (g : Graph) (count : ℕ) (part : ℕ → ℕ) (later next : List ℕ) : Type 0 where
  pub to_later : (i : ℕ) → 2 ≤ i → i < count → slice_index later i ≡ between g (one_part part i) (later_parts part (i + 1))
  pub to_next : (i : ℕ) → 2 ≤ i → i < count → slice_index next i ≡ between g (one_part part i) (one_part part (i + 1))
