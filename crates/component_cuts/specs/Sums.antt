-- The sums that some of several weights make, row by row in a table of bits.
use Rattle.std.specs.Prelude.{ℕ, zero, suc, ◌≡◌, ◌==◌, ◌+◌, ◌-◌, ◌*◌, ◌<◌, ◌≤◌, ◌^◌, ◌&&◌, ◌||◌, Bool, true, not, nat_lt, if◌then◌else◌, min, List, slice_index, length}
use Rattle.cut_definitions.specs.Cuts.{has}
use Rattle.cut_definitions.specs.Balance.{mass}
use Rattle.vertex_set.specs.Side.{VertexList}
use Rattle.component_cuts.specs.declared.best_refusal.BestRefusal.{BestRefusal}
use Rattle.component_cuts.specs.declared.best_refusal.BestRefusal.TheVariants.{TooLarge, NoMemory}
use Rattle.component_cuts.specs.Parts.{Parts}

-- the mass of the vertices of a number
abbrev pub mass_of_number : List ℕ → List ℕ → ℕ → ℕ
mass_of_number masses part_of i = mass masses (λ v. slice_index part_of v == i)

-- whether a row has a sum: row 0 has 0 alone, and the others follow one another in the table
abbrev pub has_sum : VertexList → ℕ → ℕ → ℕ → Bool
has_sum table width row sum = if row == 0 then sum == 0 else has table.members ((row - 1) * width + sum + 1)

-- whether a sum is in a row, or is in it but for a weight
abbrev pub is_made : VertexList → ℕ → ℕ → ℕ → ℕ → Bool
is_made table width row weight sum = has_sum table width row sum || (not (nat_lt sum weight) && has_sum table width row (sum - weight))

-- each row has the sums of the row before it, with and without one weight more: that of number 2 in row 1, and so on
abbrev pub AreRows : List ℕ → ℕ → ℕ → VertexList → Type 0
AreRows weights width rows table = (row sum : ℕ) → row < rows → sum < width → has_sum table width (row + 1) sum ≡ is_made table width row (slice_index weights (row + 2)) sum

-- the sum of the weights that are chosen, of the numbers 2 to rows + 1
abbrev pub sum_of_rows : List ℕ → (ℕ → Bool) → ℕ → ℕ
sum_of_rows weights chosen zero = 0
sum_of_rows weights chosen (suc row) = sum_of_rows weights chosen row + (if chosen (row + 2) then slice_index weights (row + 2) else 0)

-- a sum of a row that is as near to one half of the greatest sum as any
pub record IsBestSum (table : VertexList) (width row sum : ℕ) : Type 0 where
  pub within : sum < width
  pub made : has_sum table width row sum ≡ true
  pub best : (other : ℕ) → other < width → has_sum table width row other ≡ true → min other (width - 1 - other) ≤ min sum (width - 1 - sum)

-- the entries of the table are at most 2^32
abbrev pub IsSmall : Parts → List ℕ → Type 0
IsSmall p masses = length p.parts * (mass masses (λ v. true) + 1) ≤ 2 ^ 32

-- a refusal names the number of components and the sum of all weights, if the table is too large; or it was out of memory
abbrev pub IsBestRefusal : Parts → List ℕ → BestRefusal → Type 0
IsBestRefusal p masses (TooLarge components total) =
    (components ≡ length p.parts) × (total ≡ mass masses (λ v. true)) × (2 ^ 32 < length p.parts * (mass masses (λ v. true) + 1))
IsBestRefusal p masses NoMemory = IsSmall p masses
