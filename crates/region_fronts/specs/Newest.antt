-- The newest open vertex of a region but one.
use Rattle.std.specs.Prelude.{ℕ, ◌≡◌, ◌≢◌, ◌+◌, ◌<◌, ◌≤◌, List, length, slice_index}
use Rattle.cut_definitions.specs.Graph.{Graph}
use Rattle.cut_definitions.specs.Regions.{IsOpenAt}

-- an open vertex of the region of t, other than t
pub record IsAnother (g : Graph) (labels : List ℕ) (t v : ℕ) : Type 0 where
  pub other : v ≢ t
  pub region : slice_index labels v ≡ slice_index labels t
  pub is_open : IsOpenAt g labels v

-- no entry of a list from a place on is one
abbrev pub IsNoneFrom : Graph → List ℕ → ℕ → List ℕ → ℕ → Type 0
IsNoneFrom g labels t list from = (k : ℕ) → from ≤ k → k < length list → ¬ IsAnother g labels t (slice_index list k)

-- the last such entry of a list, which is one of the last four
pub record IsNewestBut (g : Graph) (labels : List ℕ) (t : ℕ) (list : List ℕ) (v : ℕ) : Type 0 where
  pub place : ℕ
  pub within : place < length list
  pub late : length list ≤ place + 4
  pub there : slice_index list place ≡ v
  pub another : IsAnother g labels t v
  pub later : IsNoneFrom g labels t list (place + 1)
