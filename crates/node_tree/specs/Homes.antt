-- The nodes of the vertices while regions are left, and the labels of the regions.
use Rattle.std.specs.Prelude.{ℕ, ◌≡◌, ◌==◌, ◌+◌, ◌<◌, ◌≤◌, ◌⊎◌, if◌then◌else◌, List, length, slice_index, slice_set}

-- for each vertex from 0 on the node that it entered, and for each label that of its region
pub record HomesState : Type 0 where
  pub entered : List ℕ
  pub regions : List ℕ

-- the node of a vertex
abbrev pub home_of : HomesState → List ℕ → ℕ → ℕ
home_of h labels v = if slice_index labels v == 0 then slice_index h.entered v else slice_index h.regions (slice_index labels v)

-- each label below the next fresh one, also 0, has an owner of its own from 0 to n, which has that label or has entered; so the
-- next fresh label is at most n + 1
pub record AreNumbered (n : ℕ) (labels : List ℕ) (fresh : ℕ) : Type 0 where
  pub below : (v : ℕ) → slice_index labels v < fresh
  pub owner : ℕ → ℕ
  pub to_n : (q : ℕ) → q < fresh → owner q ≤ n
  pub owns : (q : ℕ) → q < fresh → (slice_index labels (owner q) ≡ q) ⊎ (slice_index labels (owner q) ≡ 0)
  pub apart : (p q : ℕ) → p < fresh → q < fresh → owner p ≡ owner q → p ≡ q

-- the next fresh label fits
abbrev pub LawOfFreshLabels : Type 0
LawOfFreshLabels = (n : ℕ) (labels : List ℕ) (fresh : ℕ) → AreNumbered n labels fresh → fresh ≤ n + 1

-- at first vertex 1 has entered, and all others are in region 1
abbrev pub LawOfFirstLabels : Type 0
LawOfFirstLabels = (n : ℕ) (labels : List ℕ) → 1 ≤ n → length labels ≡ n + 1 → slice_index labels 0 ≡ 0 → slice_index labels 1 ≡ 0 →
    ((v : ℕ) → 2 ≤ v → v ≤ n → slice_index labels v ≡ 1) → AreNumbered n labels 2

-- a vertex that enters takes no label from another
abbrev pub LawOfEnteringAlone : Type 0
LawOfEnteringAlone = (n : ℕ) (labels : List ℕ) (t fresh : ℕ) → AreNumbered n labels fresh → AreNumbered n (slice_set labels t 0) fresh
