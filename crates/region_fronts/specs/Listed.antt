-- The parts of a region as a split lists them: all of them, or all but one.
use Rattle.std.specs.Prelude.{ℕ, ◌≡◌, ◌≢◌, ◌==◌, ◌<◌, ◌≤◌, ◌+◌, if◌then◌else◌, nat_lt, List, length, slice_index, slice_index_or, slice_range}
use Rattle.std.specs.List.{All, AllPairs, Contains}
use Rattle.cut_definitions.specs.Cuts.{has}
use Rattle.region_fronts.specs.declared.parts.Placed.{Placed}

-- how many parts there are; the number of the part that is not listed, or 0 if all are; for each vertex from 0 on the number of
-- its part, or 0 if it is not listed; the listed vertices, and for each number where the list of that part starts and ends in them
pub record PartsState : Type 0 where
  pub count : ℕ
  pub unlisted : ℕ
  pub numbers : List ℕ
  pub list : List ℕ
  pub starts : List ℕ
  pub ends : List ℕ

-- the list of a part
abbrev pub part_list : PartsState → ℕ → List ℕ
part_list p i = slice_range p.list (slice_index p.starts i) (slice_index p.ends i)

-- the number of the part of a vertex: all outside the region is in part 1
abbrev pub part_in : PartsState → List ℕ → ℕ → ℕ → ℕ
part_in p labels region v =
    if nat_lt 0 (slice_index p.numbers v) then slice_index p.numbers v else (if slice_index labels v == region then p.unlisted else 1)

-- the list of a part has each of its vertices once
pub record IsPartList (numbers : List ℕ) (i : ℕ) (list : List ℕ) : Type 0 where
  pub exact : (v : ℕ) → has list v ≡ (slice_index numbers v == i)
  pub apart : AllPairs (λ (u v : ℕ). u ≢ v) list

-- each listed part has its list, and nothing else is listed; only vertices of the region are
pub record AreListed (n : ℕ) (labels : List ℕ) (region : ℕ) (p : PartsState) : Type 0 where
  pub two : 2 ≤ p.count
  pub unlisted : p.unlisted ≤ p.count
  pub numbers_length : length p.numbers ≡ n + 1
  pub to_count : (v : ℕ) → slice_index p.numbers v ≤ p.count
  pub not_unlisted : (v : ℕ) → 1 ≤ p.unlisted → slice_index p.numbers v ≢ p.unlisted
  pub inside : (v : ℕ) → 1 ≤ slice_index p.numbers v → slice_index labels v ≡ region
  pub lists : (i : ℕ) → 1 ≤ i → i ≤ p.count → IsPartList p.numbers i (part_list p i)

-- the lists of the parts are in one list
pub record AreLaidOut (count : ℕ) (list starts ends : List ℕ) : Type 0 where
  pub starts_length : count < length starts
  pub ends_length : count < length ends
  pub ordered : (i : ℕ) → i ≤ count → slice_index starts i ≤ slice_index ends i
  pub within : (i : ℕ) → i ≤ count → slice_index ends i ≤ length list

-- each vertex with a number was put once, with that number, and nothing else was put
pub record AreAllPlaced (numbers : List ℕ) (placed : List Placed) : Type 0 where
  pub from_one : All (λ (p : Placed). 1 ≤ p.number) placed
  pub numbered : All (λ (p : Placed). slice_index numbers p.vertex ≡ p.number) placed
  pub every : (v : ℕ) → 1 ≤ slice_index numbers v → Contains placed (record { number = slice_index numbers v; vertex = v })
  pub once : AllPairs (λ (p q : Placed). p.vertex ≢ q.vertex) placed

-- a number is at the places from `start` to before `end`, and at no others
pub record IsRun (placed : List Placed) (number start end : ℕ) : Type 0 where
  pub ordered : start ≤ end
  pub within : end ≤ length placed
  pub inside : (k : ℕ) (d : Placed) → start ≤ k → k < end → (slice_index_or placed k d).number ≡ number
  pub outside : (k : ℕ) (d : Placed) → k < length placed → (slice_index_or placed k d).number ≡ number → (start ≤ k) × (k < end)

-- the numbers 1 to `count` are where the two lists say
pub record AreRuns (placed : List Placed) (count : ℕ) (starts ends : List ℕ) : Type 0 where
  pub starts_length : length starts ≡ count + 1
  pub ends_length : length ends ≡ count + 1
  pub runs : (i : ℕ) → 1 ≤ i → i ≤ count → IsRun placed i (slice_index starts i) (slice_index ends i)

-- no part has the number 0, and its list is empty
pub record IsZeroEmpty (starts ends : List ℕ) : Type 0 where
  pub starts_length : 1 ≤ length starts
  pub ends_length : 1 ≤ length ends
  pub start : slice_index starts 0 ≡ 0
  pub end : slice_index ends 0 ≡ 0

-- what holds of the fields at each time
pub record AreKept (count : ℕ) (numbers : List ℕ) (placed : List Placed) (list starts ends : List ℕ) : Type 0 where
  pub all_placed : AreAllPlaced numbers placed
  pub laid_out : AreLaidOut count list starts ends
  pub zero : IsZeroEmpty starts ends
