-- The texts of cuts: of some sides, and of one side and its balance.
use Rattle.std.specs.Prelude.{ℕ, List, [], ◌∷◌, ◌++◌, length, codes, ltb}
use Rattle.std.specs.List.{filter, flat_map}
use Rattle.std.specs.Fmt.{decimal}
use Rattle.answer_pages.specs.Text.{spaced, line}

-- the members above a vertex
abbrev pub above : ℕ → List ℕ → List ℕ
above low = filter (λ v. ltb low v)

-- a side: its members, with one space between two
abbrev pub side_line : List ℕ → List ℕ
side_line [] = 10 ∷ []
side_line (v ∷ vs) = decimal v ++ spaced vs ++ 10 ∷ []

-- the value, the number of the sides, and the sides, one a line
abbrev pub listing_text : ℕ → List (List ℕ) → List ℕ
listing_text value sides = line (codes "value") (value ∷ []) ++ line (codes "cuts") (length sides ∷ []) ++ flat_map side_line sides

-- the value and the number of the sides
abbrev pub count_text : ℕ → ℕ → List ℕ
count_text value count = line (codes "value") (value ∷ []) ++ line (codes "count") (count ∷ [])

-- the value, a balance, and a side
abbrev pub balanced_text : ℕ → ℕ → List ℕ → List ℕ
balanced_text value balance side = line (codes "value") (value ∷ []) ++ line (codes "balance") (balance ∷ []) ++ line (codes "side") side
