-- Sets of the vertices 1 to n as ascending lists, and their bits in words.
use Rattle.std.specs.Prelude.{ℕ, ◌==◌, ◌≢◌, ◌+◌, ◌/◌, ◌%◌, ◌^◌, ◌≤◌, ◌<◌, ◌≡◌, ◌⊎◌, false, true, List, length, map, slice_index}
use Rattle.std.specs.declared.cmp.Ordering.{Ordering}
use Rattle.std.specs.declared.cmp.Ordering.TheVariants.{Less, Greater}
use Rattle.std.specs.Int.{bit_at}
use Rattle.std.specs.List.{filter, range_with_len}
use Rattle.cut_definitions.specs.Weight.{VertexSet}
use Rattle.cut_definitions.specs.Cuts.{has}

-- a set of the vertices 1 to `vertices`, in ascending order
pub record VertexList : Type 0 where
  pub vertices : ℕ
  pub members : List ℕ

-- the lists of several sets
abbrev pub members_of : List VertexList → List (List ℕ)
members_of = map (λ (s : VertexList). s.members)

-- the vertices of 1 to n that are in a set
abbrev pub listed : ℕ → VertexSet → VertexList
listed n s = record { vertices = n; members = filter s (range_with_len 1 n) }

-- whether the bit of a vertex is set: each word has 64 of them
abbrev pub has_bit : List ℕ → VertexSet
has_bit words v = bit_at (slice_index words (v / 64)) (v % 64) == 1

-- the least member of v or more
pub record IsNextFrom (s : VertexList) (v least : ℕ) : Type 0 where
  pub not_before : v ≤ least
  pub member : has s.members least ≡ true
  pub none_between : (u : ℕ) → v ≤ u → u < least → has s.members u ≡ false

-- the least place of v or more whose bit is set
pub record IsNextBit (words : List ℕ) (from least : ℕ) : Type 0 where
  pub not_before : from ≤ least
  pub is_set : has_bit words least ≡ true
  pub none_between : (k : ℕ) → from ≤ k → k < least → has_bit words k ≡ false

-- words with a bit for each vertex of 1 to n, and no other bit set
pub record AreWords (n : ℕ) (words : List ℕ) : Type 0 where
  pub few : n < 2 ^ 32
  pub long : length words ≡ (n + 1) / 64 + 1
  pub within : (v : ℕ) → has_bit words v ≡ true → (1 ≤ v) × (v ≤ n)

-- the least place whose bit is set in one list of words and not in the other
pub record IsFirstDifference (words others : List ℕ) (place : ℕ) : Type 0 where
  pub in_words : place / 64 < length words
  pub in_others : place / 64 < length others
  pub differ : has_bit words place ≢ has_bit others place
  pub same_before : (k : ℕ) → k < place → has_bit words k ≡ has_bit others k

-- the order is Less if some bit from a place on is set, and Greater if none is
abbrev pub IsOrderAt : List ℕ → ℕ → Ordering → Type 0
IsOrderAt words place order =
    ((order ≡ Less) × (k : ℕ) × (place ≤ k) × (has_bit words k ≡ true))
    ⊎ ((order ≡ Greater) × ((k : ℕ) → place ≤ k → has_bit words k ≡ false))
