-- What a run answers.
use Rattle.std.specs.Prelude.{ℕ, ◌≤◌, ⊤, Option, None, Some, IsTrue}
use Rattle.cut_definitions.specs.Graph.{Graph}
use Rattle.cut_definitions.specs.Weight.{VertexSet, parts, weight}
use Rattle.region_flow.specs.declared.outcome.Outcome.{Outcome}
use Rattle.region_flow.specs.declared.outcome.Outcome.TheVariants.{AtLeast, Best}
use Rattle.region_flow.specs.declared.outcome.BestRun.{BestRun}

-- the fact holds of the amount, if there is one
abbrev pub IfBest : Outcome → (ℕ → Type 0) → Type 0
IfBest AtLeast holds = ⊤
IfBest (Best amount) holds = holds amount

-- the run from s to t, if it answered `Best`
abbrev pub best_run : ℕ → ℕ → Outcome → Option BestRun
best_run s t AtLeast = None
best_run s t (Best amount) = Some (record { s = s; t = t; amount = amount })

-- every set that parts s from t weighs at least the stop
abbrev pub IsStopReached : Graph → ℕ → ℕ → ℕ → Type 0
IsStopReached g s t stop = (side : VertexSet) → IsTrue (parts side s t) → stop ≤ weight g side
