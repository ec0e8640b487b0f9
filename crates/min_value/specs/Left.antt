-- What is left to be known of a value.
use Rattle.std.specs.Prelude.{ℕ, ◌≡◌, ◌+◌, ◌*◌, ◌≤◌, ◌^◌, min, Option, None, Some, MatchOption}
use Rattle.cut_definitions.specs.Graph.{Graph}
use Rattle.cut_definitions.specs.Cuts.{value}
use Rattle.forest_contraction.specs.Left.{IsLesser}
use Rattle.least_cut.specs.declared.sweep.Swept.{Swept}
use Rattle.least_cut.specs.declared.sweep.Swept.TheVariants.{Whole, Part}

-- what a step leaves a number to be: the least weight that is known, or what that and a smaller graph leave
abbrev pub IsToTell : ℕ → ℕ → Option Graph → Type 0
IsToTell whole best smaller = MatchOption smaller (best ≡ whole) (IsLesser whole best)

-- a step that tells the lesser of a bound and the value of a graph, or leaves it to a smaller graph
pub record IsScanned (g : Graph) (bound best : ℕ) (smaller : Option Graph) : Type 0 where
  pub at_most : best ≤ bound
  pub told : IsToTell (min bound (value g)) best smaller
  pub less : MatchOption smaller (Unit {0}) (λ (h : Graph). h.vertices * 50 ≤ g.vertices * 49)

-- how many vertices are left, and one more; 0 where nothing is left to look at
abbrev pub count_left : Option Graph → ℕ
count_left None = 0
count_left (Some g) = g.vertices + 1

-- the lesser of a bound and the value, or a number between that and the bound; not too large for a bound of scans
abbrev pub TellsLesser : Graph → ℕ → Swept → Type 0
TellsLesser g bound (Whole weight) = (weight ≡ min bound (value g)) × (weight ≤ 2 ^ 62)
TellsLesser g bound (Part weight) = (min bound (value g) ≤ weight) × (weight ≤ bound) × (weight ≤ 2 ^ 62)
