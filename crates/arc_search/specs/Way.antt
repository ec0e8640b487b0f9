-- The way from the place that a search found last up to its start.
use Rattle.std.specs.Prelude.{ℕ, Bool, zero, suc, ◌≡◌, ◌<◌, ◌≤◌, ◌⊎◌, ◌++◌, true, List, length, slice_index}
use Rattle.std.specs.List.{All, Contains}
use Rattle.weighted_graph.specs.Searches.{is_seen}

-- each place but the first was found from an earlier one
abbrev pub AreEarlier : List ℕ → ℕ → Type 0
AreEarlier parents count = (j : ℕ) → 1 ≤ j → j < count → slice_index parents j < j

-- the place from which one was found, so many times over
abbrev pub climb : List ℕ → ℕ → ℕ → ℕ
climb parents zero place = place
climb parents (suc steps) place = slice_index parents (climb parents steps place)

-- a place is reached by going up from another, through none that is the first
pub record IsUp (parents : List ℕ) (last place : ℕ) : Type 0 where
  pub steps : ℕ
  pub there : climb parents steps last ≡ place
  pub below : (k : ℕ) → k < steps → 1 ≤ climb parents k last

-- a vertex stands on the way up from a place
pub record IsOnWay (order parents : List ℕ) (last v : ℕ) : Type 0 where
  pub place : ℕ
  pub up : IsUp parents last place
  pub stands : slice_index order place ≡ v

-- marks were added, and each vertex that got one was put at the end of a list
pub record IsTouched (marks : List Bool) (touched : List ℕ) (marks' : List Bool) (touched' : List ℕ) : Type 0 where
  pub long : length marks' ≡ length marks
  pub kept : (v : ℕ) → is_seen marks v ≡ true → is_seen marks' v ≡ true
  pub added : List ℕ
  pub grown : touched' ≡ touched ++ added
  pub new : (v : ℕ) → is_seen marks' v ≡ true → (is_seen marks v ≡ true) ⊎ Contains added v
  pub each : All (λ (v : ℕ). is_seen marks' v ≡ true) added

-- a vertex has its mark, and no other has got one
pub record IsMarked (v : ℕ) (marks : List Bool) (touched : List ℕ) (marks' : List Bool) (touched' : List ℕ) : Type 0 where
  pub touches : IsTouched marks touched marks' touched'
  pub others : (x : ℕ) → is_seen marks' x ≡ true → (is_seen marks x ≡ true) ⊎ (x ≡ v)

-- the marks that were added are on the way up from a place
pub record IsMarkedWay (order parents : List ℕ) (last : ℕ) (marks : List Bool) (touched : List ℕ) (marks' : List Bool) (touched' : List ℕ) : Type 0 where
  pub touches : IsTouched marks touched marks' touched'
  pub on_way : (v : ℕ) → is_seen marks' v ≡ true → (is_seen marks v ≡ true) ⊎ IsOnWay order parents last v
