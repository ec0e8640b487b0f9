-- Arrays of a caller: sides as bytes, numbers that are counted from 0, and what is left.
use Rattle.std.specs.Prelude.{ℕ, ◌≡◌, ◌+◌, ◌-◌, ◌*◌, ◌<◌, ◌≤◌, List, [], length, slice_index, slice_index_or, if◌then◌else◌}
use Rattle.cut_definitions.specs.Cuts.{has}

-- the byte of a vertex, counted from 0: 1 where the side has it, and else 0
abbrev pub byte_of : List ℕ → ℕ → ℕ
byte_of side v = if has side (v + 1) then 1 else 0

-- a byte for each of n vertices
abbrev pub TellsSide : ℕ → List ℕ → List ℕ → Type 0
TellsSide n side bytes = (v : ℕ) → v < n → slice_index bytes v ≡ byte_of side v

-- a row of n bytes for each of some sides, one row after another
abbrev pub TellsRows : ℕ → List (List ℕ) → List ℕ → Type 0
TellsRows n sides bytes = (k v : ℕ) → k < length sides → v < n → slice_index bytes (k * n + v) ≡ byte_of (slice_index_or sides k []) v

-- an array begins with the numbers of the list, counted from 0 in place of 1
abbrev pub BeginsFromZero : List ℕ → List ℕ → Type 0
BeginsFromZero xs out = (k : ℕ) → k < length xs → slice_index out k ≡ slice_index xs k - 1

-- the entries from a place on are what they were
abbrev pub IsLeftFrom : ℕ → List ℕ → List ℕ → Type 0
IsLeftFrom place old new = (i : ℕ) → place ≤ i → slice_index new i ≡ slice_index old i

-- and those before a place
abbrev pub IsLeftBefore : ℕ → List ℕ → List ℕ → Type 0
IsLeftBefore place old new = (i : ℕ) → i < place → slice_index new i ≡ slice_index old i
