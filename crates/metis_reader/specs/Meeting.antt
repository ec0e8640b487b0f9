-- Which entries to greater neighbours have met their mates, by the cursors of the rows.
use Rattle.std.specs.Prelude.{◌≡◌, ◌≤◌, ◌<◌, ℕ, suc, ◌-◌, ◌++◌, Bool, nat_lt, if◌then◌else◌, List, [], ◌∷◌, get_or}
use Rattle.cut_definitions.specs.declared.edge_list.Edge.{Edge}

-- whether the edge at this place is in front of the cursor of its row, which begins there before the first one is met
abbrev pub is_met_at : List ℕ → ℕ → Edge → Bool
is_met_at cursors place e = nat_lt place (get_or cursors (e.u - 1) 0)

-- those of these edges that were met, the first of which is at this place
abbrev pub met_from : ℕ → List ℕ → List Edge → List Edge
met_from place cursors [] = []
met_from place cursors (e ∷ edges) = if is_met_at cursors place e then e ∷ met_from (suc place) cursors edges else met_from (suc place) cursors edges

-- the entries to smaller neighbours: those that were met, and others
abbrev pub with_met : List Edge → List ℕ → List Edge → List Edge
with_met greater cursors lesser = met_from 0 cursors greater ++ lesser

-- an entry of one of the finished lines
abbrev pub IsOfFinished : ℕ → Edge → Type 0
IsOfFinished lines e = (1 ≤ e.u) × (e.u ≤ lines)

-- an entry of the line after the finished ones
abbrev pub IsOfNext : ℕ → Edge → Type 0
IsOfNext lines e = e.u ≡ suc lines

-- the first of two edges comes before the second
abbrev pub IsInFront : Edge → Edge → Type 0
IsInFront d e = (d.u ≤ e.u) × (d.u ≡ e.u → d.v < e.v)
