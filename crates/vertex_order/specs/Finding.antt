-- A search that numbers the vertices as it finds them.
use Rattle.std.specs.Prelude.{ℕ, ◌≡◌, ◌+◌, ◌-◌, ◌<◌, ◌≤◌, length, slice_index}
use Rattle.cut_definitions.specs.Contraction.{label}
use Rattle.vertex_order.specs.declared.finding.Finding.{Finding}

-- the vertex at a place of the order, counted from 0
abbrev pub vertex_at : Finding → ℕ → ℕ
vertex_at f k = slice_index f.order.items k

-- the number of a vertex, or 0
abbrev pub number_of : Finding → ℕ → ℕ
number_of f v = label f.numbers.items v

-- vertex 1 was found first, and the number of each vertex that was found says where it is
pub record IsFinding (n : ℕ) (f : Finding) : Type 0 where
  pub long : length f.numbers.items ≡ n
  pub some : 1 ≤ length f.order.items
  pub first : vertex_at f 0 ≡ 1
  pub vertices : (k : ℕ) → k < length f.order.items → (1 ≤ vertex_at f k) × (vertex_at f k ≤ n)
  pub numbers : (k : ℕ) → k < length f.order.items → number_of f (vertex_at f k) ≡ k + 1
  pub placed : (v : ℕ) → 1 ≤ v → v ≤ n → 1 ≤ number_of f v → (number_of f v ≤ length f.order.items) × (vertex_at f (number_of f v - 1) ≡ v)
