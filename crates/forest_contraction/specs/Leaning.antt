-- Vertices that lean on a neighbour.
use Rattle.std.specs.Prelude.{ℕ, ◌≡◌, ◌+◌, ◌<◌, ◌≤◌, ◌^◌, List, length, slice_index}
use Rattle.std.specs.List.{All}
use Rattle.cut_definitions.specs.Graph.{Graph}
use Rattle.cut_definitions.specs.Cuts.{has, value, mincuts}
use Rattle.cut_definitions.specs.Scan.{single}
use Rattle.cut_definitions.specs.Weight.{weight}
use Rattle.edge_certificates.specs.Certificates.{edge_weight}
use Rattle.forest_contraction.specs.declared.leaning.Hubs.{Hubs}
use Rattle.vertex_classes.specs.Classes.{Respects}

-- a vertex has no hub yet, or is joined to it by an edge of at least this weight
pub record IsHub (g : Graph) (v hub weight : ℕ) : Type 0 where
  pub within : hub ≤ g.vertices
  pub small : weight ≤ 2 ^ 61
  pub some : 1 ≤ hub → 1 ≤ weight
  pub joined : 1 ≤ hub → weight ≤ edge_weight g v hub

-- the degrees of a graph, and a hub of each vertex
pub record AreHubs (g : Graph) (h : Hubs) : Type 0 where
  pub degrees_long : length h.degrees.items ≡ g.vertices + 1
  pub hubs_long : length h.hubs.items ≡ g.vertices + 1
  pub weights_long : length h.weights.items ≡ g.vertices + 1
  pub degrees : (v : ℕ) → slice_index h.degrees.items v ≡ weight g (single v)
  pub hubs : (v : ℕ) → v ≤ g.vertices → IsHub g v (slice_index h.hubs.items v) (slice_index h.weights.items v)

-- no minimum cut that weighs less than a bound parts a class
abbrev pub AreSafe : Graph → ℕ → List ℕ → Type 0
AreSafe g bound parents = value g < bound → All (λ side. Respects parents (has side)) (mincuts g)
