-- Insertions of edges, one after another: two vertices and a weight each.
use Rattle.std.specs.Prelude.{ℕ, ◌≢◌, ◌≤◌, List, length}
use Rattle.std.specs.List.{All}

abbrev pub Insertion : Type 0
Insertion = ℕ × ℕ × ℕ

-- an insertion joins two vertices by a weight of 1 or more
abbrev pub IsInsertion : Insertion → Type 0
IsInsertion i = (i.0 ≢ i.1) × (1 ≤ i.2)

-- 1 to 1,000 insertions
pub record AreInsertions (is : List Insertion) : Type 0 where
  pub some : 1 ≤ length is
  pub few : length is ≤ 1000
  pub each : All IsInsertion is
