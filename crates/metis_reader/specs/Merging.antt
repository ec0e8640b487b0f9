-- Which of two ascending lists has the edge that comes next.
use Rattle.std.specs.Prelude.{◌≡◌, ◌≤◌, ◌<◌, ℕ, List, length, slice_index_or}
use Rattle.cut_definitions.specs.declared.edge_list.Edge.{Edge}
use Rattle.cut_definitions.specs.Graph.{IsBefore}
use Rattle.metis_reader.specs.declared.mates.Next.{Next}
use Rattle.metis_reader.specs.declared.mates.Next.TheVariants.{Greater, Lesser, Both}

-- the edge at this place of the first list comes before all edges of the second from that place on
pub record ComesFirst (edges : List Edge) (i : ℕ) (others : List Edge) (j : ℕ) : Type 0 where
  pub inside : i < length edges
  pub first : (k : ℕ) (d : Edge) → j ≤ k → k < length others → IsBefore (slice_index_or edges i d) (slice_index_or others k d)

-- both places have edges with the same ends
pub record AreMates (edges : List Edge) (i : ℕ) (others : List Edge) (j : ℕ) : Type 0 where
  pub inside : i < length edges
  pub other_inside : j < length others
  pub same_u : (d : Edge) → (slice_index_or edges i d).u ≡ (slice_index_or others j d).u
  pub same_v : (d : Edge) → (slice_index_or edges i d).v ≡ (slice_index_or others j d).v

abbrev pub IsNext : Next → List Edge → ℕ → List Edge → ℕ → Type 0
IsNext Greater greater i lesser j = ComesFirst greater i lesser j
IsNext Lesser greater i lesser j = ComesFirst lesser j greater i
IsNext Both greater i lesser j = AreMates greater i lesser j
