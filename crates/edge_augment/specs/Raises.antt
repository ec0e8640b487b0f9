-- Unit edges that raise the value of a graph, and the sets that show that fewer do not.
use Rattle.std.specs.Prelude.{ℕ, ◌≡◌, ◌<◌, ◌≤◌, ◌-◌, ◌/◌, ◌↔◌, List, length}
use Rattle.std.specs.List.{All, AllPairs, Contains}
use Rattle.cut_definitions.specs.Cuts.{IsAscendingWithin, has, mincuts, side_of, value}
use Rattle.cut_definitions.specs.Graph.{Graph, IsVertex}
use Rattle.edge_augment.specs.Augmentations.{Augmentation}
use Rattle.edge_augment.specs.Laws.{AreDisjoint, IsSublist}
use Rattle.edge_augment.specs.NewEdges.{IsParted, with_unit_edges}

-- an ascending list of vertices that is one side of a minimum cut or the other; it may have vertex 1
pub record IsCutSet (g : Graph) (set : List ℕ) : Type 0 where
  pub ascending : IsAscendingWithin 1 g.vertices set
  pub is_cut : Contains (mincuts g) (side_of g.vertices (has set))

-- a side of a minimum cut that has no other such side within it
pub record IsMinimalCutSet (g : Graph) (set : List ℕ) : Type 0 where
  pub is_set : IsCutSet g set
  pub none_within : (other : List ℕ) → IsCutSet g other → IsSublist other set → other ≡ set

-- pairs of vertices of a graph
abbrev pub AreVertexPairs : Graph → List (ℕ × ℕ) → Type 0
AreVertexPairs g pairs = All (λ p. IsVertex g.vertices p.0 × IsVertex g.vertices p.1) pairs

-- The sets are the minimal ones, and no two share a vertex. There are half as many edges, rounded up, and each minimum
-- cut separates the ends of one of them. The edges raise the value, and no fewer unit edges do. If any unit edges
-- raise it, then each set has exactly one end of some of them.
pub record IsLeastRaise (g : Graph) (plan : Augmentation) : Type 0 where
  pub sets : (set : List ℕ) → Contains plan.sets set ↔ IsMinimalCutSet g set
  pub disjoint : AllPairs AreDisjoint plan.sets
  pub pairs : AreVertexPairs g plan.edges
  pub parted : (side : List ℕ) → Contains (mincuts g) side → IsParted plan.edges (has side)
  pub number : length plan.edges ≡ length plan.sets - length plan.sets / 2
  pub raised : value g < value (with_unit_edges g plan.edges)
  pub fewest : (pairs : List (ℕ × ℕ)) → AreVertexPairs g pairs → value g < value (with_unit_edges g pairs) → length plan.edges ≤ length pairs
  pub needed : (pairs : List (ℕ × ℕ)) → AreVertexPairs g pairs → value g < value (with_unit_edges g pairs) → All (λ set. IsParted pairs (has set)) plan.sets
