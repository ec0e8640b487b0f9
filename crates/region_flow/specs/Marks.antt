-- The marks of a search: 0 stands for none.
use Rattle.std.specs.Prelude.{ℕ, ◌≡◌, ◌==◌, if◌then◌else◌, List, slice_index}
use Rattle.std.specs.List.{sum_by}

-- the mark of a vertex is 0, or one more than its place in the order
abbrev pub order_mark : List ℕ → ℕ → ℕ
order_mark marks v = slice_index marks v

-- the number of places without a mark
abbrev pub unmarked : List ℕ → ℕ
unmarked marks = sum_by (λ (m : ℕ). if m == 0 then 1 else 0) marks

-- no vertex is marked
abbrev pub IsAllUnmarked : List ℕ → Type 0
IsAllUnmarked marks = (v : ℕ) → order_mark marks v ≡ 0
