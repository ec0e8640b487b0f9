-- What a round has marked.
use Rattle.std.specs.Prelude.{ℕ, Bool, ◌≡◌, ◌<◌, ◌⊎◌, List, ◌∷◌, true, length}
use Rattle.std.specs.List.{All}
use Rattle.cut_definitions.specs.declared.edge_list.Edge.{Edge}
use Rattle.cut_definitions.specs.Graph.{Graph}
use Rattle.cut_definitions.specs.Cuts.{has}
use Rattle.weighted_graph.specs.declared.graph.Arc.{Arc}
use Rattle.weighted_graph.specs.Rows.{row_of}
use Rattle.weighted_graph.specs.RowLaws.{edge_at}
use Rattle.edge_certificates.specs.Certificates.{IsHeavyEdge, IsHeavyVertex, IsTriangle, IsShared}
use Rattle.capped_scan.specs.Scan.{ScanState, waits, rank}
use Rattle.mark_board.specs.Marks.{MarkList}

-- one of the four local tests holds for an edge and a limit
abbrev pub IsCertified : Graph → Edge → ℕ → Type 0
IsCertified g e limit = IsHeavyEdge e limit ⊎ (IsHeavyVertex g e limit ⊎ (IsTriangle g e limit ⊎ IsShared g e limit))

-- each edge is marked for which one of them holds
abbrev pub CertifiedAreMarked : Graph → (ℕ → Bool) → ℕ → Type 0
CertifiedAreMarked g marked limit = (i : ℕ) → i < length g.edges → IsCertified g (edge_at g i) limit → marked i ≡ true

-- what was marked still is
abbrev pub AreKept : MarkList → MarkList → Type 0
AreKept old new = (i : ℕ) → i < old.edges → has old.marked i ≡ true → has new.marked i ≡ true

-- the vertex was scanned last
pub record IsLatest (s : ScanState) (vertex : ℕ) : Type 0 where
  pub before : List ℕ
  pub order_is : s.order ≡ vertex ∷ before

-- the link of each neighbour of a vertex that waits to be scanned is below a limit
abbrev pub LinksAreBelow : Graph → ScanState → ℕ → ℕ → Type 0
LinksAreBelow g s vertex limit = All (λ (a : Arc). waits s a.to ≡ true → rank g s a.to < limit) (row_of g vertex)

-- some edge is marked
pub record SomeIsMarked (marks : MarkList) : Type 0 where
  pub edge : ℕ
  pub within : edge < marks.edges
  pub is_marked : has marks.marked edge ≡ true
