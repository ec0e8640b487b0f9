-- The cuts of a flat cactus, by what node 0 still reaches if the edges of a cut are removed; and when a flat cactus is well formed.
use Rattle.std.specs.Prelude.{ℕ, Bool, true, ⊤, ◌≡◌, ◌≢◌, ◌<◌, ◌≤◌, ◌+◌, ◌-◌, ◌↔◌, List, [], ◌∷◌, ◌++◌, map, length, slice_index, slice_index_or}
use Rattle.std.specs.List.{All, AllPairs, Contains, filter, flat_map, sum_by}
use Rattle.cut_definitions.specs.Cuts.{has, IsAscendingWithin}
use Rattle.flat_cactus.specs.Flat.{Flat}

-- the edges of the way from a node through those that follow it and back to the first node
abbrev pub edges_along : ℕ → ℕ → List ℕ → List (ℕ × ℕ)
edges_along first at [] = (at, first) ∷ []
edges_along first at (next ∷ rest) = (at, next) ∷ edges_along first next rest

-- the edges of a cycle: neighbours in its order, and the last node with the first
abbrev pub cycle_edges : List ℕ → List (ℕ × ℕ)
cycle_edges [] = []
cycle_edges (first ∷ rest) = edges_along first first rest

-- a list without one of its entries, for each of them
abbrev pub without_one : {X : Type 0} → List X → List (List X)
without_one [] = []
without_one (x ∷ xs) = xs ∷ map (λ left. x ∷ left) (without_one xs)

-- a list without two of its entries, for each two of them
abbrev pub without_two : {X : Type 0} → List X → List (List X)
without_two [] = []
without_two (x ∷ xs) = without_one xs ++ map (λ left. x ∷ left) (without_two xs)

-- the edges of the cycles without two edges of one cycle, for each such two
abbrev pub without_two_of_one : List (List ℕ) → List (List (ℕ × ℕ))
without_two_of_one [] = []
without_two_of_one (c ∷ cs) = map (λ left. left ++ flat_map cycle_edges cs) (without_two (cycle_edges c)) ++ map (λ left. cycle_edges c ++ left) (without_two_of_one cs)

-- all edges: the bridges, and those of the cycles
abbrev pub all_edges : Flat → List (ℕ × ℕ)
all_edges flat = flat.bridges ++ flat_map cycle_edges flat.cycles

-- the edges that are left if those of a cut are removed, for each cut: one bridge, or two edges of one cycle
abbrev pub edges_left : Flat → List (List (ℕ × ℕ))
edges_left flat = map (λ left. left ++ flat_map cycle_edges flat.cycles) (without_one flat.bridges) ++ map (λ left. flat.bridges ++ left) (without_two_of_one flat.cycles)

-- each edge has both its ends in the set, or neither
abbrev pub IsClosed : List (ℕ × ℕ) → (ℕ → Bool) → Type 0
IsClosed [] set = ⊤
IsClosed (e ∷ es) set = (set e.0 ≡ set e.1) × IsClosed es set

-- node 0 reaches the node by these edges: every closed set that has node 0 has it
abbrev pub IsReached : List (ℕ × ℕ) → ℕ → Type 0
IsReached edges i = (set : ℕ → Bool) → IsClosed edges set → set 0 ≡ true → set i ≡ true

-- the vertices of a node, and none past the last node
abbrev pub node_at : Flat → ℕ → List ℕ
node_at flat i = slice_index_or flat.nodes i []

-- the ascending list of exactly the vertices of the nodes that node 0 does not reach by the edges that are left
pub record IsSideWithout (flat : Flat) (left : List (ℕ × ℕ)) (side : List ℕ) : Type 0 where
  pub ascending : IsAscendingWithin 1 flat.vertices side
  pub unreached : (v : ℕ) → Contains side v ↔ ((i : ℕ) × Contains (node_at flat i) v × (IsReached left i → ⊥))

-- some cut of the flat cactus has this side
abbrev pub IsFlatSide : Flat → List ℕ → Type 0
IsFlatSide flat side = (left : List (ℕ × ℕ)) × Contains (edges_left flat) left × IsSideWithout flat left side

-- the list has exactly the sides of the cuts of the flat cactus
abbrev pub HasSides : Flat → List (List ℕ) → Type 0
HasSides flat sides = (side : List ℕ) → IsFlatSide flat side ↔ Contains sides side

-- three or more different nodes below a number, the first of them the least
pub record IsCycleBelow (count : ℕ) (cycle : List ℕ) : Type 0 where
  pub long : 3 ≤ length cycle
  pub below : All (λ i. i < count) cycle
  pub different : AllPairs (λ i j. i ≢ j) cycle
  pub first_least : All (λ i. slice_index cycle 0 ≤ i) cycle

-- a bridge from a node to a later one below a number
abbrev pub IsBridgeBelow : ℕ → ℕ × ℕ → Type 0
IsBridgeBelow count b = (b.0 < b.1) × (b.1 < count)

-- The vertices of each node ascend and are of 1 to n. Each vertex of 1 to n is in exactly one node, and vertex 1 is in
-- node 0. Bridges and cycles join nodes that exist. They join all nodes, and by no more edges than that takes.
pub record IsWellFormed (flat : Flat) : Type 0 where
  pub ascending : All (IsAscendingWithin 1 flat.vertices) flat.nodes
  pub in_one_node : (v : ℕ) → 1 ≤ v → v ≤ flat.vertices → length (filter (λ l. has l v) flat.nodes) ≡ 1
  pub first_has_one : Contains (node_at flat 0) 1
  pub bridges : All (IsBridgeBelow (length flat.nodes)) flat.bridges
  pub cycles : All (IsCycleBelow (length flat.nodes)) flat.cycles
  pub count : length flat.nodes ≡ 1 + length flat.bridges + sum_by (λ c. length c - 1) flat.cycles
  pub joined : (i : ℕ) → i < length flat.nodes → IsReached (all_edges flat) i

-- bridges ascend by their second node, cycles by theirs, and the nodes of each cycle ascend
pub record IsInOrder (flat : Flat) : Type 0 where
  pub bridges : AllPairs (λ (b c : ℕ × ℕ). b.1 < c.1) flat.bridges
  pub cycles : AllPairs (λ (c d : List ℕ). slice_index c 1 < slice_index d 1) flat.cycles
  pub along : All (AllPairs (λ i j. i < j)) flat.cycles
