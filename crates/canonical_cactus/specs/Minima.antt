-- Trees of minima over lists of numbers, and the least number at the places of a range.
use Rattle.std.specs.Prelude.{ℕ, ◌≡◌, ◌+◌, ◌*◌, ◌<◌, ◌≤◌, ◌⊎◌, length, min, slice_index}
use Rattle.canonical_cactus.specs.declared.minima.Minima.{Minima}

-- each inner node holds the smaller of the two numbers below it
pub record IsMinTree (m : Minima) : Type 0 where
  pub long : length m.tree.items ≡ 2 * m.size
  pub nodes : (i : ℕ) → 1 ≤ i → i < m.size → slice_index m.tree.items i ≡ min (slice_index m.tree.items (2 * i)) (slice_index m.tree.items (2 * i + 1))

-- the number at a place
abbrev pub leaf_at : Minima → ℕ → ℕ
leaf_at m p = slice_index m.tree.items (m.size + p)

-- the least number at the places from one to before another; the greatest number of 32 bits if there is none
pub record IsLeast (m : Minima) (from to least : ℕ) : Type 0 where
  pub no_less : (p : ℕ) → from ≤ p → p < to → least ≤ leaf_at m p
  pub there : (least ≡ 4294967295) ⊎ ((p : ℕ) × (from ≤ p) × (p < to) × (leaf_at m p ≡ least))
