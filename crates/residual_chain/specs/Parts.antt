-- The parts of a chain while they are found: a vertex without a part has the mark 0.
use Rattle.std.specs.Prelude.{ℕ, ◌≡◌, ◌==◌, ◌≤◌, if◌then◌else◌, List, length}
use Rattle.cut_definitions.specs.Cuts.{has}
use Rattle.arc_search.specs.Marks.{mark_of}

-- the vertices of the source side have part 1, and the others none
pub record IsSourcePart (n : ℕ) (source : List ℕ) (part_of : List ℕ) : Type 0 where
  pub as_long : length part_of ≡ n
  pub value : (v : ℕ) → 1 ≤ v → v ≤ n → mark_of part_of v ≡ (if has source v then 1 else 0)

-- the vertices without a part have got one of this number
pub record IsFilled (number : ℕ) (old new : List ℕ) : Type 0 where
  pub as_long : length new ≡ length old
  pub value : (v : ℕ) → 1 ≤ v → v ≤ length old → mark_of new v ≡ (if mark_of old v == 0 then number else mark_of old v)
