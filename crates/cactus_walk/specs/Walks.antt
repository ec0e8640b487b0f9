-- What a walk over the cuts of a cactus has still to return.
use Rattle.std.specs.Prelude.{ℕ, List}

-- a list of sides still to come, of vertices of 1 to `vertices`
pub record SidesToCome : Type 0 where
  pub vertices : ℕ
  pub to_come : List (List ℕ)
