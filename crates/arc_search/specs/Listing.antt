-- The parts of a region that are listed from one side, and the vertices at their border.
use Rattle.std.specs.Prelude.{ℕ, Bool, ◌≡◌, ◌≢◌, ◌+◌, ◌<◌, ◌≤◌, ◌⊎◌, true, false, not, List, [], length, slice_index, IsTrue}
use Rattle.std.specs.List.{All, AllPairs, Contains, count_by}
use Rattle.cut_definitions.specs.Graph.{Graph, IsVertex}
use Rattle.cut_definitions.specs.Cuts.{has}
use Rattle.weighted_graph.specs.declared.graph.Arc.{Arc}
use Rattle.weighted_graph.specs.Rows.{row_of}
use Rattle.weighted_graph.specs.Searches.{is_seen}
use Rattle.arc_search.specs.Further.{AreFurther}

-- for each vertex from 0 on the number of its part in the order of listing, 0 where it is not listed; how many parts there are;
-- the listed vertices; the vertices that are at the border, and for each vertex from 0 on whether it is
pub record ListingState : Type 0 where
  pub turns : List ℕ
  pub count : ℕ
  pub list : List ℕ
  pub border : List ℕ
  pub at_border : List Bool

-- the memory of a listing between two calls: each vertex has a mark
pub record IsLaidOut (turns marks : List ℕ) : Type 0 where
  pub as_long : length marks ≡ length turns
  pub marked : (v : ℕ) → 1 ≤ v → v < length marks → slice_index marks v ≢ 0

-- the border has just the vertices that are said to be at it, each once
pub record IsBorder (n : ℕ) (border : List ℕ) (at_border : List Bool) : Type 0 where
  pub at_border_length : length at_border ≡ n + 1
  pub has_all : (v : ℕ) → is_seen at_border v ≡ true → Contains border v
  pub within : All (λ (v : ℕ). IsVertex n v × (is_seen at_border v ≡ true)) border
  pub rest : count_by not at_border + length border ≡ n + 1

-- the list has just the vertices that have a part, each once
pub record IsKept (n : ℕ) (s : ListingState) : Type 0 where
  pub turns_length : length s.turns ≡ n + 1
  pub nobody : slice_index s.turns 0 ≡ 0
  pub to_count : (v : ℕ) → slice_index s.turns v ≤ s.count
  pub has_all : (v : ℕ) → 1 ≤ slice_index s.turns v → Contains s.list v
  pub within : All (λ (v : ℕ). IsVertex n v × (1 ≤ slice_index s.turns v)) s.list
  pub apart : AllPairs (λ (u v : ℕ). u ≢ v) s.list
  pub border : IsBorder n s.border s.at_border

-- no vertex is listed or at the border
pub record IsNothingListed (n : ℕ) (s : ListingState) : Type 0 where
  pub turns_length : length s.turns ≡ n + 1
  pub at_border_length : length s.at_border ≡ n + 1
  pub turns : (v : ℕ) → slice_index s.turns v ≡ 0
  pub count : s.count ≡ 0
  pub list : s.list ≡ []
  pub border : s.border ≡ []
  pub at_border : (v : ℕ) → is_seen s.at_border v ≡ false

-- a vertex of the region is listed or at the border
abbrev pub IsMet : List ℕ → ℕ → List ℕ → List Bool → ℕ → Type 0
IsMet labels region turns at_border v = slice_index labels v ≡ region → (1 ≤ slice_index turns v) ⊎ (is_seen at_border v ≡ true)

-- each end of the row of a vertex that is in its region is listed or at the border
abbrev pub IsRowMet : Graph → List ℕ → List ℕ → List Bool → ℕ → Type 0
IsRowMet g labels turns at_border v = All (λ (a : Arc). IsMet labels (slice_index labels v) turns at_border a.to) (row_of g v)

-- each neighbour of a listed vertex in its region is listed or at the border
abbrev pub IsBordered : Graph → List ℕ → ListingState → Type 0
IsBordered g labels s = (v : ℕ) → 1 ≤ slice_index s.turns v → IsRowMet g labels s.turns s.at_border v

-- what was at the border still is
abbrev pub StaysAtBorder : List Bool → List Bool → Type 0
StaysAtBorder old new = (v : ℕ) → is_seen old v ≡ true → is_seen new v ≡ true

-- a list has got more at its end, or nothing
pub record HasMore (old new : List ℕ) : Type 0 where
  pub longer : length old ≤ length new
  pub same : (i : ℕ) → i < length old → slice_index new i ≡ slice_index old i

-- just the vertices of a list have got further parts
pub record AreTaken (n : ℕ) (goes : ℕ → ℕ → Bool) (found : List ℕ) (old new : ℕ → ℕ) (count last : ℕ) : Type 0 where
  pub further : AreFurther n goes old new count last
  pub only : (v : ℕ) → count < new v → IsTrue (has found v)
  pub each : (v : ℕ) → IsTrue (has found v) → 1 ≤ new v
