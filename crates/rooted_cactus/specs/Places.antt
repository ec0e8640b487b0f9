-- The places of the vertices of a tree in the list of all, and sides as ranges of that list.
use Rattle.std.specs.Prelude.{ℕ, ◌+◌, ◌≤◌, ◌≡◌, ◌&&◌, not, nat_le, Bool, List, [], ◌∷◌, length}
use Rattle.std.specs.List.{filter, range_with_len}
use Rattle.cut_definitions.specs.Cuts.{has}
use Rattle.rooted_cactus.specs.CutRanges.{Range, elements_at}

-- the place of the first element of each of several lists that stand one after another from a place on, and last the end
abbrev pub places_from : ℕ → List (List ℕ) → List ℕ
places_from k [] = k ∷ []
places_from k (l ∷ ls) = k ∷ places_from (k + length l) ls

-- whether a place is in a range
abbrev pub is_inside : Range → ℕ → Bool
is_inside r p = nat_le r.from p && not (nat_le r.to p)

-- each vertex of 1 to n has one place in the list
abbrev pub AreOnce : ℕ → List ℕ → Type 0
AreOnce n order = (v : ℕ) → 1 ≤ v → v ≤ n → (p : ℕ) × ((r : Range) → has (elements_at order r) v ≡ is_inside r p)

-- the vertices at the places of a range, as an ascending list
abbrev pub side_at : ℕ → List ℕ → Range → List ℕ
side_at n order r = filter (has (elements_at order r)) (range_with_len 1 n)
