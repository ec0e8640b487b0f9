-- What a search has found, along the steps of a relation, up to a vertex that halts it.
use Rattle.std.specs.Prelude.{ℕ, Bool, ◌≡◌, ◌+◌, ◌-◌, ◌<◌, ◌≤◌, ◌^◌, ◌⊎◌, true, false, not, List, length, slice_index, slice_set, IsTrue}
use Rattle.std.specs.List.{count_by}
use Rattle.cut_definitions.specs.Weight.{VertexSet}
use Rattle.weighted_graph.specs.Searches.{is_seen}
use Rattle.arc_search.specs.Closed.{IsClosed}

-- the first `count` places of the order are the vertices that were found, each with the place that it was found from; the
-- rows of the places before `place` have been followed
pub record SearchState : Type 0 where
  pub seen : List Bool
  pub order : List ℕ
  pub parents : List ℕ
  pub count : ℕ
  pub place : ℕ

-- each closed set that has the one vertex has the other
abbrev pub Leads : (ℕ → ℕ → Bool) → ℕ → ℕ → Type 0
Leads goes u v = (x : VertexSet) → IsClosed goes x → IsTrue (x u) → IsTrue (x v)

-- a vertex stands at a place below the count
pub record StandsAt (order : List ℕ) (count v : ℕ) : Type 0 where
  pub place : ℕ
  pub below : place < count
  pub there : slice_index order place ≡ v

-- a place was found from an earlier one
pub record IsFoundFrom (goes : ℕ → ℕ → Bool) (order parents : List ℕ) (j : ℕ) : Type 0 where
  pub earlier : slice_index parents j < j
  pub leads : Leads goes (slice_index order (slice_index parents j)) (slice_index order j)

-- a vertex is listed or was found
abbrev pub IsKnown : List ℕ → List Bool → ℕ → Type 0
IsKnown turns seen v = (1 ≤ slice_index turns v) ⊎ (is_seen seen v ≡ true)

-- different vertices of 1 to n were found, none of them listed, from starts and from one another; all but the last are
-- quiet, and what the first ones step to is known
pub record IsSearch (n : ℕ) (goes : ℕ → ℕ → Bool) (halts : ℕ → Bool) (turns : List ℕ) (starts : VertexSet) (s : SearchState) : Type 0 where
  pub seen_length : length s.seen ≡ n + 1
  pub order_length : length s.order ≡ n + 1
  pub parents_length : length s.parents ≡ n + 1
  pub rest : count_by not s.seen + s.count ≡ n + 1
  pub place_within : s.place ≤ s.count
  pub from_one : (j : ℕ) → j < s.count → 1 ≤ slice_index s.order j
  pub to_n : (j : ℕ) → j < s.count → slice_index s.order j ≤ n
  pub free : (j : ℕ) → j < s.count → slice_index turns (slice_index s.order j) ≡ 0
  pub placed : (j : ℕ) → j < s.count → is_seen s.seen (slice_index s.order j) ≡ true
  pub stands : (v : ℕ) → is_seen s.seen v ≡ true → StandsAt s.order s.count v
  pub distinct : (i j : ℕ) → i < s.count → j < s.count → slice_index s.order i ≡ slice_index s.order j → i ≡ j
  pub led : (j : ℕ) → j < s.count → IsTrue (starts (slice_index s.order j)) ⊎ IsFoundFrom goes s.order s.parents j
  pub quiet : (j : ℕ) → j + 1 < s.count → halts (slice_index s.order j) ≡ false
  pub followed : (j : ℕ) → j < s.place → (v : ℕ) → IsTrue (goes (slice_index s.order j) v) → IsKnown turns s.seen v

-- nothing was found yet
pub record IsNoneFound (n : ℕ) (s : SearchState) : Type 0 where
  pub seen_length : length s.seen ≡ n + 1
  pub order_length : length s.order ≡ n + 1
  pub parents_length : length s.parents ≡ n + 1
  pub none : (v : ℕ) → is_seen s.seen v ≡ false
  pub count : s.count ≡ 0
  pub place : s.place ≡ 0

-- nothing that was found halts the search
abbrev pub IsQuiet : (ℕ → Bool) → SearchState → Type 0
IsQuiet halts s = (j : ℕ) → j < s.count → halts (slice_index s.order j) ≡ false

-- the vertex that was found last halts the search
pub record HasHalted (halts : ℕ → Bool) (s : SearchState) : Type 0 where
  pub some : 1 ≤ s.count
  pub halting : IsTrue (halts (slice_index s.order (s.count - 1)))

-- a search goes on from another
pub record GoesOn (s s' : SearchState) : Type 0 where
  pub more : s.count ≤ s'.count
  pub further : s.place ≤ s'.place
  pub order_kept : (j : ℕ) → j < s.count → slice_index s'.order j ≡ slice_index s.order j
  pub parents_kept : (j : ℕ) → j < s.count → slice_index s'.parents j ≡ slice_index s.parents j
  pub seen_kept : (v : ℕ) → is_seen s.seen v ≡ true → is_seen s'.seen v ≡ true

-- a vertex may be a start of a search in which nothing halts so far
pub record MayBegin (n : ℕ) (halts : ℕ → Bool) (turns : List ℕ) (starts : VertexSet) (s : SearchState) (v : ℕ) : Type 0 where
  pub from_one : 1 ≤ v
  pub to_n : v ≤ n
  pub free : slice_index turns v ≡ 0
  pub start : IsTrue (starts v)
  pub quiet : IsQuiet halts s

-- a search with one vertex more, at the end of the order
abbrev pub with_vertex : SearchState → ℕ → ℕ → SearchState
with_vertex s v parent = record {
  seen = slice_set s.seen v true;
  order = slice_set s.order s.count v;
  parents = slice_set s.parents s.count parent;
  count = s.count + 1;
  place = s.place;
}

-- the memory of a search
pub record IsKept (seen : List Bool) (order parents : List ℕ) (count : ℕ) : Type 0 where
  pub few : length seen ≤ 2 ^ 32
  pub order_length : length order ≡ length seen
  pub parents_length : length parents ≡ length seen
  pub rest : count_by not seen + count ≡ length seen
  pub within : (j : ℕ) → j < count → slice_index order j < length seen
  pub stands : (v : ℕ) → is_seen seen v ≡ true → StandsAt order count v
