-- How many parts there are.
use Rattle.std.specs.Prelude.{ℕ, ◌≤◌}
use Rattle.cut_definitions.specs.Chain.{IsNumbered}

-- there are no more parts than vertices
abbrev pub LawOfFewParts : Type 0
LawOfFewParts = (n s t count : ℕ) (part : ℕ → ℕ) → IsNumbered n s t count part → count ≤ n
