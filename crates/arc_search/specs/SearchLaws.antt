-- What searches show of closed sets.
use Rattle.std.specs.Prelude.{ℕ, Bool, ◌≡◌, ◌==◌, ◌-◌, ◌≤◌, true, List, slice_index, IsTrue}
use Rattle.cut_definitions.specs.Weight.{VertexSet}
use Rattle.weighted_graph.specs.Searches.{is_seen}
use Rattle.arc_search.specs.Closed.{IsClosed}
use Rattle.arc_search.specs.Found.{SearchState, Leads, IsSearch, IsNoneFound}
use Rattle.arc_search.specs.Way.{AreEarlier, IsOnWay}

-- a search that has found nothing yet is one by any steps, from any starts
abbrev pub LawOfNothing : Type 0
LawOfNothing = (n : ℕ) (goes : ℕ → ℕ → Bool) (halts : ℕ → Bool) (turns : List ℕ) (starts : VertexSet) (s : SearchState) →
    IsNoneFound n s → IsSearch n goes halts turns starts s

-- a closed set that has the starts has all that was found
abbrev pub LawOfFound : Type 0
LawOfFound = (n : ℕ) (goes : ℕ → ℕ → Bool) (halts : ℕ → Bool) (turns : List ℕ) (starts : VertexSet) (s : SearchState) →
    IsSearch n goes halts turns starts s → (x : VertexSet) → IsClosed goes x → ((v : ℕ) → IsTrue (starts v) → IsTrue (x v)) →
    (v : ℕ) → is_seen s.seen v ≡ true → IsTrue (x v)

-- in a search from one vertex each vertex on the way from the last place leads to the vertex that was found last
abbrev pub LawOfWay : Type 0
LawOfWay = (n : ℕ) (goes : ℕ → ℕ → Bool) (halts : ℕ → Bool) (turns : List ℕ) (s : SearchState) →
    IsSearch n goes halts turns (λ v. v == slice_index s.order 0) s → 1 ≤ s.count →
    AreEarlier s.parents s.count × ((v : ℕ) → IsOnWay s.order s.parents (s.count - 1) v → Leads goes v (slice_index s.order (s.count - 1)))
