-- Lists as sets of their members, and lists of such lists.
use Rattle.std.specs.Prelude.{ℕ, ◌↔◌, ⊤, List, [], ◌∷◌}
use Rattle.std.specs.Cmp.Lexicographic.{slice_cmp}
use Rattle.std.specs.List.{Contains}
use Rattle.std.specs.List.Sorted.{IsStrictlySortedBy}
use Rattle.std.specs.Ordering.{nat_cmp}

-- two lists of lists have the same members, in whatever order and how often each
abbrev pub SameMembers : List (List ℕ) → List (List ℕ) → Type 0
SameMembers k l = (x : List ℕ) → Contains k x ↔ Contains l x

-- no two entries of a list are the same
abbrev pub AreDifferent : {X : Type 0} → List X → Type 0
AreDifferent [] = ⊤
AreDifferent (x ∷ xs) = (Contains xs x → ⊥) × AreDifferent xs

-- strictly ascending by the order of lists, a list that another begins with first
abbrev pub IsAscending : List (List ℕ) → Type 0
IsAscending = IsStrictlySortedBy (slice_cmp nat_cmp)
