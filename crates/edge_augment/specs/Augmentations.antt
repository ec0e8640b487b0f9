-- Augmentations: new edges that raise the value, and the sets that show that fewer do not.
use Rattle.std.specs.Prelude.{ℕ, ◌≡◌, ◌-◌, ◌/◌, ◌<◌, ◌≤◌, ◌↔◌, List, length}
use Rattle.std.specs.List.{All, AllPairs, Contains}
use Rattle.std.specs.List.Sorted.{IsStrictlySortedBy}
use Rattle.std.specs.Ordering.{nat_cmp, ordering_then}
use Rattle.std.specs.Cmp.Lexicographic.{slice_cmp}
use Rattle.std.specs.declared.cmp.Ordering.{Ordering}
use Rattle.cut_definitions.specs.Graph.{Graph, IsVertex}
use Rattle.cut_definitions.specs.Cuts.{has, value, mincuts}
use Rattle.rooted_cactus.specs.Rooted.{Rooted, sides_of}
use Rattle.edge_augment.specs.Ends.{end_sets}
use Rattle.edge_augment.specs.Laws.{AreDisjoint, IsMinimalSet}
use Rattle.edge_augment.specs.NewEdges.{new_edges, with_unit_edges, IsParted}

-- new edges as pairs of vertices, and sets of vertices as lists
pub record Augmentation : Type 0 where
  pub edges : List (ℕ × ℕ)
  pub sets : List (List ℕ)

-- the order of pairs: by the first number, and then by the second
abbrev pub pair_cmp : ℕ × ℕ → ℕ × ℕ → Ordering
pair_cmp p q = ordering_then (nat_cmp p.0 q.0) (nat_cmp p.1 q.1)

-- the sets are the inclusion-minimal ones whose side is a side, in the order of lists; the edges are those between opposite end nodes, ascending, each once
pub record IsAugmentation (cactus : Rooted) (a : Augmentation) : Type 0 where
  pub sets_ascend : IsStrictlySortedBy (slice_cmp nat_cmp) a.sets
  pub sets : (set : List ℕ) → Contains a.sets set ↔ IsMinimalSet cactus.vertices cactus.root set
  pub edges_ascend : IsStrictlySortedBy pair_cmp a.edges
  pub edges : (edge : ℕ × ℕ) → Contains a.edges edge ↔ Contains (new_edges (end_sets cactus.root)) edge

-- no two of the sets share a vertex, each edge joins two vertices, the lesser one first, every side has exactly one end of some edge in it, and there are half as many edges as sets, rounded up: no fewer pairs of vertices do that
pub record IsLeast (cactus : Rooted) (a : Augmentation) : Type 0 where
  pub disjoint : AllPairs AreDisjoint a.sets
  pub within : All (λ e. IsVertex cactus.vertices e.0 × IsVertex cactus.vertices e.1 × (e.0 < e.1)) a.edges
  pub parted : (side : List ℕ) → Contains (sides_of cactus) side → IsParted a.edges (has side)
  pub number : length a.edges ≡ length a.sets - length a.sets / 2
  pub fewest : (pairs : List (ℕ × ℕ)) → All (λ p. IsVertex cactus.vertices p.0 × IsVertex cactus.vertices p.1) pairs →
      ((side : List ℕ) → Contains (sides_of cactus) side → IsParted pairs (has side)) → length a.edges ≤ length pairs

-- if the sides of a cactus are the minimum cuts of a graph, the edges of a least augmentation raise the value, and no fewer unit edges between its vertices do
abbrev pub LawOfAugmentation : Type 0
LawOfAugmentation = (g : Graph) (cactus : Rooted) (a : Augmentation) → 2 ≤ g.vertices → cactus.vertices ≡ g.vertices →
    ((side : List ℕ) → Contains (mincuts g) side ↔ Contains (sides_of cactus) side) → IsLeast cactus a →
    (value g < value (with_unit_edges g a.edges))
    × ((pairs : List (ℕ × ℕ)) → All (λ p. IsVertex g.vertices p.0 × IsVertex g.vertices p.1) pairs → value g < value (with_unit_edges g pairs) → length a.edges ≤ length pairs)
