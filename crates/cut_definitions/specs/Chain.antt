-- Chains of minimum cuts: the vertices in numbered parts, so that the first i parts are a set of the chain.
use Rattle.std.specs.Prelude.{ℕ, ◌≡◌, ◌==◌, ◌<◌, ◌≤◌, ◌&&◌, ◌⊎◌, not, false, List, map, length, nat_le, IsTrue, nat_lt}
use Rattle.std.specs.List.{Contains, filter, flat_map, range_with_len}
use Rattle.cut_definitions.specs.declared.edge_list.Edge.{Edge}
use Rattle.cut_definitions.specs.Graph.{Graph}
use Rattle.cut_definitions.specs.Weight.{VertexSet, parts, HasVertex, IsMinimumCut}
use Rattle.cut_definitions.specs.Cuts.{has, mincuts}

-- two sets have the same vertices of 1 to n
abbrev pub SameOn : ℕ → VertexSet → VertexSet → Type 0
SameOn n x y = (v : ℕ) → 1 ≤ v → v ≤ n → x v ≡ y v

-- the vertices of the parts up to `last`, where `part` gives the number of each vertex's part
abbrev pub first_parts : (ℕ → ℕ) → ℕ → VertexSet
first_parts part last v = nat_le (part v) last

-- the vertices of the parts from `first` to `last`
abbrev pub parts_between : (ℕ → ℕ) → ℕ → ℕ → VertexSet
parts_between part first last v = nat_le first (part v) && nat_le (part v) last

-- the vertices of one part
abbrev pub one_part : (ℕ → ℕ) → ℕ → VertexSet
one_part part number v = part v == number

-- the parts are numbered from 1 to `count`, none is empty, s is in the first and t in the last
pub record IsNumbered (n s t count : ℕ) (part : ℕ → ℕ) : Type 0 where
  pub s_from_one : 1 ≤ s
  pub s_to_n : s ≤ n
  pub t_from_one : 1 ≤ t
  pub t_to_n : t ≤ n
  pub two : 2 ≤ count
  pub from_one : (v : ℕ) → 1 ≤ v → v ≤ n → 1 ≤ part v
  pub to_count : (v : ℕ) → 1 ≤ v → v ≤ n → part v ≤ count
  pub s_first : part s ≡ 1
  pub t_last : part t ≡ count
  pub none_empty : (i : ℕ) → 1 ≤ i → i ≤ count → HasVertex n (one_part part i)

-- a set is that of the first parts, for some number of them that leaves out the last part
pub record IsFirstParts (n count : ℕ) (part : ℕ → ℕ) (x : VertexSet) : Type 0 where
  pub last : ℕ
  pub from_one : 1 ≤ last
  pub below_count : last < count
  pub same : SameOn n x (first_parts part last)

-- the first i parts, for i from 1 to one less than the number of parts, are exactly the minimum cuts that separate s from t, as sets with s
pub record IsChain (g : Graph) (s t count : ℕ) (part : ℕ → ℕ) : Type 0 where
  pub numbered : IsNumbered g.vertices s t count part
  pub all_minimum : (i : ℕ) → 1 ≤ i → i < count → IsMinimumCut g (first_parts part i)
  pub no_other : (x : VertexSet) → IsMinimumCut g x → IsTrue (x s) → x t ≡ false → IsFirstParts g.vertices count part x

-- a set is the union of the parts of an interval between the first part and the last, both left out
pub record IsInnerInterval (n count : ℕ) (part : ℕ → ℕ) (x : VertexSet) : Type 0 where
  pub first : ℕ
  pub last : ℕ
  pub from_two : 2 ≤ first
  pub ordered : first ≤ last
  pub below_count : last < count
  pub same : SameOn n x (parts_between part first last)

-- all vertices of a set are in one part
pub record IsInOnePart (n : ℕ) (part : ℕ → ℕ) (x : VertexSet) : Type 0 where
  pub number : ℕ
  pub inside : (v : ℕ) → 1 ≤ v → v ≤ n → IsTrue (x v) → part v ≡ number

-- the parts from `first` to `last`, all between the first part and the last of the chain, are a minimum cut
pub record IsMinimumInterval (g : Graph) (count : ℕ) (part : ℕ → ℕ) (first last : ℕ) : Type 0 where
  pub from_two : 2 ≤ first
  pub ordered : first ≤ last
  pub below_count : last < count
  pub minimum : IsMinimumCut g (parts_between part first last)

-- an edge joins two vertices
pub record IsJoined (g : Graph) (s t : ℕ) : Type 0 where
  pub edge : Edge
  pub is_edge : Contains g.edges edge
  pub ends : ((edge.u ≡ s) × (edge.v ≡ t)) ⊎ ((edge.u ≡ t) × (edge.v ≡ s))

-- all vertices of 1 to n that the one set has are in the other
abbrev pub IsWithin : ℕ → VertexSet → VertexSet → Type 0
IsWithin n x y = (v : ℕ) → 1 ≤ v → v ≤ n → IsTrue (x v) → IsTrue (y v)

-- the set of a cut that has s: the vertices that the side does not part from s
abbrev pub set_with : ℕ → ℕ → List ℕ → List ℕ
set_with n s side = filter (λ v. not (parts (has side) s v)) (range_with_len 1 n)

-- the minimum cuts that part s from t, as sets with s
unfoldable pub sets_across : Graph → ℕ → ℕ → List (List ℕ)
sets_across g s t = map (set_with g.vertices s) (filter (λ side. parts (has side) s t) (mincuts g))

-- the chain of the minimum cuts that part s from t: these sets in order of size
unfoldable pub chain_of : Graph → ℕ → ℕ → List (List ℕ)
chain_of g s t = flat_map (λ size. filter (λ set. length set == size) (sets_across g s t)) (range_with_len 1 g.vertices)

-- the vertices of the first parts, as a list
abbrev pub first_list : ℕ → (ℕ → ℕ) → ℕ → List ℕ
first_list n part last = filter (first_parts part last) (range_with_len 1 n)

-- a list is that of the first parts, for some number of them that leaves out the last part
pub record IsFirstList (n count : ℕ) (part : ℕ → ℕ) (x : List ℕ) : Type 0 where
  pub last : ℕ
  pub from_one : 1 ≤ last
  pub below_count : last < count
  pub same : x ≡ first_list n part last

-- the vertices of the parts that were listed up to one; 0 means that a vertex is not listed
abbrev pub listed_upto : (ℕ → ℕ) → ℕ → VertexSet
listed_upto turn j v = nat_lt 0 (turn v) && nat_le (turn v) j
