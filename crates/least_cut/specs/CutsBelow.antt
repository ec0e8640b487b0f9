-- Several cuts that weigh less than a bound.
use Rattle.std.specs.Prelude.{ℕ, ◌≡◌, ◌++◌, ◌⊎◌, ◌<◌, ◌≤◌, List, [], ◌∷◌, Option, MatchOption, length, map, option_to_list, take}
use Rattle.std.specs.List.{All}
use Rattle.cut_definitions.specs.Cuts.{value}
use Rattle.cut_definitions.specs.Graph.{Graph}
use Rattle.cut_definitions.specs.Members.{AreDifferent}
use Rattle.least_cut.specs.declared.lightest.LightestCut.{LightestCut}
use Rattle.least_cut.specs.Lightest.{IsCutFound, IsLightestCut}

-- the sides of some cuts, each as a list of its vertices
abbrev pub sides_in : List LightestCut → List (List ℕ)
sides_in = map (λ (c : LightestCut). c.side.members)

-- the first of some cuts is a minimum cut
abbrev pub BeginsWithLightest : Graph → List LightestCut → Type 0
BeginsWithLightest g [] = ⊥
BeginsWithLightest g (c ∷ cuts) = IsLightestCut g c

-- at most so many cuts of a graph, by their sides without vertex 1: each weighs less than a bound, no two are the same, and
-- the first is a minimum cut, if a cut weighs less than the bound and there is room for one
pub record AreCutsBelow (g : Graph) (bound room : ℕ) (cuts : List LightestCut) : Type 0 where
  pub each : All (IsCutFound g) cuts
  pub below : All (λ (c : LightestCut). c.weight < bound) cuts
  pub different : AreDifferent (sides_in cuts)
  pub few : length cuts ≤ room
  pub least : 1 ≤ room → value g < bound → BeginsWithLightest g cuts

-- the cuts that a sweep keeps: a lightest, and others
abbrev pub with_best : Option LightestCut → List LightestCut → List LightestCut
with_best best others = option_to_list best ++ others

-- a cut was put behind others, in place of those from some place on, or was dropped
abbrev pub IsPutBehind : LightestCut → List LightestCut → List LightestCut → Type 0
IsPutBehind cut old new = (new ≡ old) ⊎ ((k : ℕ) × (new ≡ take k old ++ cut ∷ []))

-- the lighter of two cuts is the best, and the other is behind others
abbrev pub IsLighterKept : (best found kept : LightestCut) → List LightestCut → List LightestCut → Type 0
IsLighterKept best found kept old new =
    ((kept ≡ found) × (found.weight ≤ best.weight) × IsPutBehind best old new) ⊎ ((kept ≡ best) × (best.weight ≤ found.weight) × IsPutBehind found old new)

-- a cut that was found is kept, beside a best or as the best, and is dropped only where another is lighter
abbrev pub IsKeptBeside : Option LightestCut → (found kept : LightestCut) → List LightestCut → List LightestCut → Type 0
IsKeptBeside best found kept old new = MatchOption best ((kept ≡ found) × (new ≡ old)) (λ b. IsLighterKept b found kept old new)
