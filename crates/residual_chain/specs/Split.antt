-- A set of vertices divided into parts that closed sets do not separate.
use Rattle.std.specs.Prelude.{ℕ, Bool, ◌≡◌, ◌≢◌, ◌+◌, ◌<◌, ◌≤◌, List, length, IsTrue}
use Rattle.cut_definitions.specs.Weight.{VertexSet, HasVertex}
use Rattle.cut_definitions.specs.Chain.{one_part}
use Rattle.arc_search.specs.Closed.{IsClosed}
use Rattle.arc_search.specs.Marks.{mark_of, unmarked}
use Rattle.arc_search.specs.Parts.{marked_upto}

-- the vertices that had no mark are in new parts, up to the last: each of these with all parts before it is closed, and
-- closed sets have all of it or nothing
pub record IsSplit (n : ℕ) (goes : ℕ → ℕ → Bool) (first last : ℕ) (old marks new : List ℕ) : Type 0 where
  pub as_long : length new ≡ n
  pub more : first ≤ last
  pub kept : (v : ℕ) → 1 ≤ v → v ≤ n → mark_of marks v ≢ 0 → mark_of new v ≡ mark_of old v
  pub from_first : (v : ℕ) → 1 ≤ v → v ≤ n → mark_of marks v ≡ 0 → first < mark_of new v
  pub to_last : (v : ℕ) → 1 ≤ v → v ≤ n → mark_of new v ≤ last
  pub none_empty : (i : ℕ) → first < i → i ≤ last → HasVertex n (one_part (mark_of new) i)
  pub closed : (i : ℕ) → first ≤ i → i ≤ last → IsClosed goes (marked_upto new i)
  pub whole : (x : VertexSet) → IsClosed goes x → (u v : ℕ) → 1 ≤ u → u ≤ n → 1 ≤ v → v ≤ n →
      first < mark_of new u → mark_of new v ≡ mark_of new u → IsTrue (x u) → IsTrue (x v)
  pub few : last ≤ first + unmarked marks
