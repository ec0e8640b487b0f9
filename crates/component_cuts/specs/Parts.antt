-- The components of a graph as lists of vertices, and their unions.
use Rattle.std.specs.Prelude.{ℕ, ◌≡◌, ◌≢◌, ◌==◌, ◌+◌, ◌-◌, ◌^◌, ◌<◌, ◌≤◌, ◌↔◌, ◌||◌, Bool, true, not, List, [], length, map, slice_index, slice_index_or}
use Rattle.std.specs.List.{filter, list_all, range_with_len}
use Rattle.cut_definitions.specs.Graph.{Graph}
use Rattle.cut_definitions.specs.Cuts.{has, least, sides, IsAscendingWithin}
use Rattle.cut_definitions.specs.Components.{AreJoined}

-- the vertices 1 to `vertices`, divided into lists
pub record Parts : Type 0 where
  pub vertices : ℕ
  pub parts : List (List ℕ)

-- the part of a number, from 1 on
abbrev pub part_at : Parts → ℕ → List ℕ
part_at p i = slice_index_or p.parts (i - 1) []

-- a number of a part
abbrev pub IsPart : Parts → ℕ → Type 0
IsPart p i = (1 ≤ i) × (i ≤ length p.parts)

-- nonempty ascending lists, of which exactly one has a vertex, in the order of their least vertices
pub record IsDivision (p : Parts) : Type 0 where
  pub nonempty : (i : ℕ) → IsPart p i → part_at p i ≢ []
  pub ascending : (i : ℕ) → IsPart p i → IsAscendingWithin 1 p.vertices (part_at p i)
  pub covered : (v : ℕ) → 1 ≤ v → v ≤ p.vertices → (i : ℕ) × IsPart p i × (has (part_at p i) v ≡ true)
  pub apart : (i j v : ℕ) → IsPart p i → IsPart p j → has (part_at p i) v ≡ true → has (part_at p j) v ≡ true → i ≡ j
  pub in_order : (i j : ℕ) → IsPart p i → IsPart p j → i < j → least (part_at p i) < least (part_at p j)

-- the vertices of a graph, divided so that two are in one part exactly if they are joined
pub record AreComponents (g : Graph) (p : Parts) : Type 0 where
  pub same_vertices : p.vertices ≡ g.vertices
  pub division : IsDivision p
  pub joined : (i j u v : ℕ) → IsPart p i → IsPart p j → has (part_at p i) u ≡ true → has (part_at p j) v ≡ true → (i ≡ j) ↔ AreJoined g u v

-- whether a side has all vertices of a part or none
abbrev pub keeps : List ℕ → List ℕ → Bool
keeps side part = list_all (λ v. has side v) part || list_all (λ v. not (has side v)) part

-- the nonempty unions of parts without vertex 1, in the order of lists
unfoldable pub unions : Parts → List (List ℕ)
unions p = filter (λ side. list_all (keeps side) p.parts) (sides p.vertices)

-- there are 2^(c-1) - 1 of them for c parts, of which there are at most 127
pub record IsNumberOfUnions (p : Parts) (number : ℕ) : Type 0 where
  pub few : length p.parts ≤ 127
  pub is : number ≡ 2 ^ (length p.parts - 1) - 1

-- the vertices with a number, if each vertex has the number of its part
abbrev pub numbered : ℕ → List ℕ → ℕ → List ℕ
numbered n part_of i = filter (λ v. slice_index part_of v == i) (range_with_len 1 n)

-- the parts of these numbers, from 1 on
abbrev pub divided : ℕ → ℕ → List ℕ → Parts
divided n count part_of = record { vertices = n; parts = map (numbered n part_of) (range_with_len 1 count) }

-- the least vertex of a number, before which all numbers are lesser
pub record IsFirst (n : ℕ) (part_of : List ℕ) (i vertex : ℕ) : Type 0 where
  pub from_one : 1 ≤ vertex
  pub to_n : vertex ≤ n
  pub is_of : slice_index part_of vertex ≡ i
  pub lesser : (u : ℕ) → 1 ≤ u → u < vertex → slice_index part_of u < i

-- each of the vertices 1 to n has a number of 1 to `count`, and these come up in their order
pub record IsNumbering (n count : ℕ) (part_of : List ℕ) : Type 0 where
  pub few : n ≤ 4194304
  pub few_numbers : count ≤ n
  pub long : length part_of ≡ n + 1
  pub from_one : (v : ℕ) → 1 ≤ v → v ≤ n → 1 ≤ slice_index part_of v
  pub to_count : (v : ℕ) → slice_index part_of v ≤ count
  pub first : (i : ℕ) → 1 ≤ i → i ≤ count → (v : ℕ) × IsFirst n part_of i v
