-- The laws of augmentation, as facts that the functions of the module `laws` state.
use Rattle.std.specs.Prelude.{ℕ, ◌≡◌, ◌-◌, ◌/◌, ◌*◌, ◌<◌, ◌≤◌, ◌≢◌, ◌↔◌, true, List, length}
use Rattle.std.specs.List.{All, AllPairs, Contains}
use Rattle.cut_definitions.specs.Graph.{Graph, IsVertex}
use Rattle.cut_definitions.specs.Cuts.{has, value, mincuts, side_of, IsAscendingWithin}
use Rattle.rooted_cactus.specs.Rooted.{over, IsCactus, sides_of}
use Rattle.rooted_cactus.specs.Normal.{is_normal}
use Rattle.rooted_cactus.specs.Trees.{blocks}
use Rattle.rooted_cactus.specs.declared.tree.Node.{Node}
use Rattle.edge_augment.specs.Ends.{end_sets}
use Rattle.edge_augment.specs.NewEdges.{with_unit_edges, IsParted, opposite_pairs, new_edges}

-- a list of unit edges raises the value exactly if every minimum cut has exactly one end of one of them
abbrev pub LawOfRaising : Type 0
LawOfRaising = (g : Graph) (pairs : List (ℕ × ℕ)) → 2 ≤ g.vertices →
    (value g < value (with_unit_edges g pairs)) ↔ ((side : List ℕ) → Contains (mincuts g) side → IsParted pairs (has side))

-- an ascending list of vertices whose side is a side of the cactus; it may have vertex 1
pub record IsCutSet (n : ℕ) (root : Node) (set : List ℕ) : Type 0 where
  pub ascending : IsAscendingWithin 1 n set
  pub is_side : Contains (sides_of (over n root)) (side_of n (has set))

-- all of one list is in the other
abbrev pub IsSublist : List ℕ → List ℕ → Type 0
IsSublist xs ys = (v : ℕ) → has xs v ≡ true → has ys v ≡ true

-- a list of a side of a cactus, or of its complement, that has no other such list within it
pub record IsMinimalSet (n : ℕ) (root : Node) (set : List ℕ) : Type 0 where
  pub is_set : IsCutSet n root set
  pub none_within : (other : List ℕ) → IsCutSet n root other → IsSublist other set → other ≡ set

-- two lists have no vertex together
abbrev pub AreDisjoint : List ℕ → List ℕ → Type 0
AreDisjoint xs ys = (v : ℕ) → has xs v ≡ true → has ys v ≡ true → ⊥

-- the sets of the end nodes of a normal cactus are exactly the inclusion-minimal ones whose side is a side of it
abbrev pub LawOfEndSets : Type 0
LawOfEndSets = (n : ℕ) (root : Node) → IsCactus n root → is_normal root ≡ true → (set : List ℕ) → Contains (end_sets root) set ↔ IsMinimalSet n root set

-- no two sets of end nodes share a vertex
abbrev pub LawOfDisjointSets : Type 0
LawOfDisjointSets = (n : ℕ) (root : Node) → IsCactus n root → AllPairs AreDisjoint (end_sets root)

-- pairs of vertices that part every side are at least half as many as the sets
abbrev pub LawOfFewest : Type 0
LawOfFewest = (n : ℕ) (root : Node) → IsCactus n root → is_normal root ≡ true → (pairs : List (ℕ × ℕ)) → All (λ p. IsVertex n p.0 × IsVertex n p.1) pairs →
    ((side : List ℕ) → Contains (sides_of (over n root)) side → IsParted pairs (has side)) → length (end_sets root) ≤ 2 * length pairs

-- the pairs of opposite end nodes part every side
abbrev pub LawOfPairing : Type 0
LawOfPairing = (n : ℕ) (root : Node) → IsCactus n root → is_normal root ≡ true →
    (side : List ℕ) → Contains (sides_of (over n root)) side → IsParted (opposite_pairs (end_sets root)) (has side)

-- there are half as many of these pairs as sets, rounded up
abbrev pub LawOfNumber : Type 0
LawOfNumber = (sets : List (List ℕ)) → length (opposite_pairs sets) ≡ length sets - length sets / 2

-- a normal cactus that has a block has two or more sets
abbrev pub LawOfSeveral : Type 0
LawOfSeveral = (n : ℕ) (root : Node) → IsCactus n root → is_normal root ≡ true → 1 ≤ length (blocks root) → 2 ≤ length (end_sets root)

-- the edges between opposite end nodes join two vertices each, and no two of them join the same
abbrev pub LawOfDifferent : Type 0
LawOfDifferent = (n : ℕ) (root : Node) → IsCactus n root → is_normal root ≡ true → 1 ≤ length (blocks root) →
    All (λ p. p.0 < p.1) (new_edges (end_sets root)) × AllPairs (λ p q. p ≢ q) (new_edges (end_sets root))
