-- Rows of bytes that are written one after another.
use Rattle.std.proofs.Common.{◌≡◌, ℕ, ◌+◌, ◌*◌, ◌<◌, ◌≤◌, List, [], inl, inr, length, get_or, sym, ◌∙◌, subst, ap, arith}
use Rattle.std.proofs.Math.Nat.{add-mul, mul_comm, mul-le-mul_right}
use Rattle.std.proofs.lemmas.Bool.{cases_lt}
use Rattle.std.proofs.lemmas.List.{get_or-map}
use Rattle.std.proofs.lemmas.Nat.{mul-add-lt}
use Rattle.vertex_set.specs.Side.{VertexList, members_of}
use Rattle.mincut_c.specs.Rows.{byte_of}

-- the rows of the first sides
abbrev pub TellsRowsTo : ℕ → ℕ → List (List ℕ) → List ℕ → Type 0
TellsRowsTo n k sides bytes = (j v : ℕ) → j < k → v < n → get_or bytes (j * n + v) 0 ≡ byte_of (get_or sides j []) v

-- the place of a byte of an earlier row is before a row
before_row : (n j k v : ℕ) → j < k → v < n → j * n + v < k * n
before_row n j k v lt vn = subst (λ (m : ℕ). j * n + v < m) (mul_comm n k) (mul-add-lt j n v k lt vn)

-- where the next row begins
pub next_row : (n k : ℕ) → k * n + n ≡ (k + 1) * n
next_row n k = omega (arith, add-mul k 1 n)

-- a row of the first ones has room where all have
pub row_room : (n k count room : ℕ) → k < count → count * n ≤ room → k * n + n ≤ room
row_room n k count room lt all =
    let h : (k + 1) * n ≤ count * n = mul-le-mul_right n (omega arith) in
    omega (arith, next_row n k, h, all)

-- a row more
pub row_more : (n k : ℕ) (sides : List (List ℕ)) (old new : List ℕ) → TellsRowsTo n k sides old → ((i : ℕ) → i < k * n → get_or new i 0 ≡ get_or old i 0) →
    ((v : ℕ) → v < n → get_or new (k * n + v) 0 ≡ byte_of (get_or sides k []) v) → TellsRowsTo n (k + 1) sides new
row_more n k sides old new so_far kept row j v lt vn = elim (cases_lt j k) [
  | inl below ↦ kept (j * n + v) (before_row n j k v below vn) ∙ so_far j v below vn
  | inr above ↦ (let same : k ≡ j = omega arith in subst (λ (i : ℕ). get_or new (i * n + v) 0 ≡ byte_of (get_or sides i []) v) same (row v vn))
]

-- the members of a side of a list
pub members_at : (sides : List VertexList) (k : ℕ) (side : VertexList) → k < length sides → side ≡ get_or sides k side → get_or (members_of sides) k [] ≡ side.members
members_at sides k side lt is = get_or-map (λ (s : VertexList). s.members) sides k side [] lt ∙ ap (λ (s : VertexList). s.members) (sym is)
