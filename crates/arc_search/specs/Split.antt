-- A set of vertices divided into parts that closed sets do not part.
use Rattle.std.specs.Prelude.{ℕ, Bool, ◌≡◌, ◌≢◌, ◌+◌, ◌^◌, ◌<◌, ◌≤◌, List, length, IsTrue}
use Rattle.cut_definitions.specs.Weight.{VertexSet, HasVertex}
use Rattle.cut_definitions.specs.Chain.{one_part}
use Rattle.arc_search.specs.Closed.{IsClosed}
use Rattle.arc_search.specs.Marks.{mark_of, unmarked}
use Rattle.arc_search.specs.Parts.{marked, marked_upto}

-- the vertices that have a part are closed, and so are they with those without a mark, which are to be divided
pub record IsToSplit (n : ℕ) (goes : ℕ → ℕ → Bool) (parts : ℕ) (part_of marks : List ℕ) : Type 0 where
  pub to_parts : (v : ℕ) → 1 ≤ v → v ≤ n → mark_of part_of v ≤ parts
  pub part_marked : (v : ℕ) → 1 ≤ v → v ≤ n → mark_of part_of v ≢ 0 → mark_of marks v ≢ 0
  pub closed : IsClosed goes (marked part_of)
  pub inside : (u v : ℕ) → IsTrue (goes u v) → mark_of marks u ≡ 0 → mark_of part_of v ≡ 0 → mark_of marks v ≡ 0
  pub few : parts + unmarked marks < 2 ^ 32

-- the vertices that have got a mark are in new parts, up to the last: each of these with all parts before it is closed, and
-- closed sets have all of it or nothing; the others keep what they had
pub record IsSplitOff (n : ℕ) (goes : ℕ → ℕ → Bool) (first last : ℕ) (old marks new marks' : List ℕ) : Type 0 where
  pub as_long : length new ≡ n
  pub marks_long : length marks' ≡ n
  pub more : first ≤ last
  pub still_marked : (v : ℕ) → 1 ≤ v → v ≤ n → mark_of marks v ≢ 0 → mark_of marks' v ≢ 0
  pub kept : (v : ℕ) → 1 ≤ v → v ≤ n → mark_of marks v ≢ 0 → mark_of new v ≡ mark_of old v
  pub left_out : (v : ℕ) → 1 ≤ v → v ≤ n → mark_of marks' v ≡ 0 → mark_of new v ≡ 0
  pub from_first : (v : ℕ) → 1 ≤ v → v ≤ n → mark_of marks v ≡ 0 → mark_of marks' v ≢ 0 → first < mark_of new v
  pub to_last : (v : ℕ) → 1 ≤ v → v ≤ n → mark_of new v ≤ last
  pub none_empty : (i : ℕ) → first < i → i ≤ last → HasVertex n (one_part (mark_of new) i)
  pub closed : (i : ℕ) → first ≤ i → i ≤ last → IsClosed goes (marked_upto new i)
  pub whole : (x : VertexSet) → IsClosed goes x → (u v : ℕ) → 1 ≤ u → u ≤ n → 1 ≤ v → v ≤ n →
      first < mark_of new u → mark_of new v ≡ mark_of new u → IsTrue (x u) → IsTrue (x v)
  pub few : last + unmarked marks' ≤ first + unmarked marks
