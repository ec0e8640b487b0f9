-- Open vertices beside another.
use Rattle.std.specs.Prelude.{ℕ, ◌≡◌, ◌<◌, ◌≤◌, List, length, slice_index, slice_index_or}
use Rattle.cut_definitions.specs.Graph.{Graph}
use Rattle.weighted_graph.specs.declared.graph.Arc.{Arc}
use Rattle.weighted_graph.specs.Rows.{row_of, no_arc}
use Rattle.cut_definitions.specs.Regions.{IsOpenAt}

-- an open vertex of a region, with a row of at most 32 arcs
pub record IsOpenIn (g : Graph) (labels : List ℕ) (region v : ℕ) : Type 0 where
  pub inside : slice_index labels v ≡ region
  pub short : length (row_of g v) ≤ 32
  pub is_open : IsOpenAt g labels v

-- where the arc of a row at a place leads
abbrev pub end_at : Graph → ℕ → ℕ → ℕ
end_at g v place = (slice_index_or (row_of g v) place no_arc).to

-- none of the first arcs of a row leads to an open vertex of its own region with a row of at most 32 arcs
abbrev pub LeadsToNoneBefore : Graph → List ℕ → ℕ → ℕ → Type 0
LeadsToNoneBefore g labels v count = (k : ℕ) → k < count → ¬ IsOpenIn g labels (slice_index labels v) (end_at g v k)

-- the first arc of a row of at most 32 arcs that leads to an open vertex of its own region with such a row
pub record IsFirstToOpen (g : Graph) (labels : List ℕ) (v : ℕ) (a : Arc) : Type 0 where
  pub short : length (row_of g v) ≤ 32
  pub place : ℕ
  pub within : place < length (row_of g v)
  pub there : slice_index_or (row_of g v) place no_arc ≡ a
  pub leads : IsOpenIn g labels (slice_index labels v) a.to
  pub before : LeadsToNoneBefore g labels v place
