-- What contracts see of a front, and the vertices that have entered the source.
use Rattle.std.specs.Prelude.{ℕ, Bool, ◌≡◌, ◌+◌, ◌<◌, ◌≤◌, ◌^◌, List, length, slice_index}

-- the number of vertices, and the vertex before which all have entered
pub record FrontState : Type 0 where
  pub vertices : ℕ
  pub passed : ℕ

-- the memory of a front: one list with a stack at either end
pub record IsLaidOut (n : ℕ) (stack : List ℕ) (put : List Bool) (count busy : ℕ) : Type 0 where
  pub stack_length : length stack ≡ n + 1
  pub put_length : length put ≡ n + 1
  pub few : count + busy ≤ n + 1
  pub fits : n + 1 < 2 ^ 32

-- all vertices before one have entered the source
abbrev pub IsPassed : List ℕ → ℕ → Type 0
IsPassed labels passed = (v : ℕ) → 1 ≤ v → v < passed → slice_index labels v ≡ 0

-- a vertex of 1 to n is outside the source
pub record IsOutsideAt (labels : List ℕ) (n v : ℕ) : Type 0 where
  pub to_n : v ≤ n
  pub outside : 1 ≤ slice_index labels v
