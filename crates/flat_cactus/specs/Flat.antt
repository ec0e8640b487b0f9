-- Flat cactuses, and how one is held: lists one after another in one list, with the places where each begins.
use Rattle.std.specs.Prelude.{ℕ, ◌≡◌, ◌≤◌, ◌+◌, List, [], ◌∷◌, ◌++◌, drop, length, slice_range, slice_index_or}
use Rattle.std.specs.List.{sum_by}

-- a flat cactus: the vertices of each node, the bridges as pairs of node numbers from 0, and the cycles as lists of node numbers
pub record Flat : Type 0 where
  pub vertices : ℕ
  pub nodes : List (List ℕ)
  pub bridges : List (ℕ × ℕ)
  pub cycles : List (List ℕ)

-- the first list and those that follow it, with a number appended to the last
abbrev pub appended_from : List ℕ → List (List ℕ) → ℕ → List (List ℕ)
appended_from l [] x = (l ++ x ∷ []) ∷ []
appended_from l (k ∷ ks) x = l ∷ appended_from k ks x

-- the lists, with a number appended to the last of them
abbrev pub appended_to_last : List (List ℕ) → ℕ → List (List ℕ)
appended_to_last [] x = []
appended_to_last (l ∷ ls) x = appended_from l ls x

-- the list that begins at the place, and those that begin at the further places: each ends where the next begins
abbrev pub cut_from : ℕ → List ℕ → List ℕ → List (List ℕ)
cut_from start [] items = drop start items ∷ []
cut_from start (next ∷ more) items = slice_range items start next ∷ cut_from next more items

-- a list, cut at the places
abbrev pub cut_at : List ℕ → List ℕ → List (List ℕ)
cut_at [] items = []
cut_at (start ∷ more) items = cut_from start more items

-- where the list with a number begins among `count` items; at the end if there is none
abbrev pub start_of : List ℕ → ℕ → ℕ → ℕ
start_of starts count i = slice_index_or starts i count

-- how many items several lists have together
abbrev pub items_in : List (List ℕ) → ℕ
items_in = sum_by (λ (l : List ℕ). length l)

-- the places ascend, and none is past the end
pub record AreStarts (starts : List ℕ) (count : ℕ) : Type 0 where
  pub ascend : (i : ℕ) → start_of starts count i ≤ start_of starts count (i + 1)
  pub within : (i : ℕ) → start_of starts count i ≤ count

-- the first list begins with the first item, and if there is no list there is no item
abbrev pub BeginsFirst : List ℕ → ℕ → Type 0
BeginsFirst starts count = start_of starts count 0 ≡ 0
