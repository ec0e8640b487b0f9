-- The line numbers of the vertex lines. Only those are kept that do not directly follow the one before.
use Rattle.std.specs.Prelude.{ℕ, zero, suc, ◌+◌, ◌-◌, nat_le, if◌then◌else◌, List, [], ◌∷◌, ◌++◌}
use Rattle.metis_reader.specs.declared.line_numbers.Run.{Run}

-- some numbers, and how many there may be
pub record LineList : Type 0 where
  pub items : List ℕ
  pub room : ℕ

-- the number of the line at this index: that of the last run that begins there or before, and as many more
abbrev pub line_from : ℕ → List Run → ℕ → ℕ
line_from before [] k = before
line_from before (r ∷ rs) k = line_from (if nat_le r.first k then r.line + (k - r.first) else before) rs k

abbrev pub numbers_of : List Run → ℕ → List ℕ
numbers_of runs zero = []
numbers_of runs (suc k) = numbers_of runs k ++ line_from 0 runs k ∷ []
