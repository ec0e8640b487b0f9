-- The first of the best sides, in the order of lists.
use Rattle.std.specs.Prelude.{ℕ, ◌≡◌, ◌≤◌, ◌<◌, ◌+◌, ◌*◌, ◌⊎◌, ⊤, false, List, Option, None, Some, length, map, slice_index}
use Rattle.std.specs.List.{Contains}
use Rattle.std.specs.Ordering.{is_gt, nat_cmp}
use Rattle.std.specs.Cmp.Lexicographic.{slice_cmp}
use Rattle.cut_definitions.specs.Balance.{IsBest}
use Rattle.rooted_cactus.specs.Borders.{border_at, ranges_between, range_between}
use Rattle.rooted_cactus.specs.CutRanges.{Range}
use Rattle.rooted_cactus.specs.Places.{AreOnce, side_at}
use Rattle.cactus_walk.specs.declared.walk.shown.Span.{Span}
use Rattle.cactus_walk.specs.Weighing.{IsShort, IsWeighed, last_of, mass_between, range_balance, range_of, total_mass}
use Rattle.canonical_cactus.specs.Minima.{IsMinTree, leaf_at}
use Rattle.canonical_cactus.specs.declared.first_side.Ranked.{Ranked}
use Rattle.canonical_cactus.specs.declared.first_side.Ends.{Ends}
use Rattle.canonical_cactus.specs.declared.first_side.Search.{Search}

-- a list does not come after another in the order of lists, in which a list comes before those that begin with it
abbrev pub IsNoLater : List ℕ → List ℕ → Type 0
IsNoLater side other = is_gt (slice_cmp nat_cmp side other) ≡ false

-- of all sides of best balance, the first
pub record IsFirstBest (masses : List ℕ) (sides : List (List ℕ)) (side : List ℕ) : Type 0 where
  pub best : IsBest masses sides side
  pub first : (other : List ℕ) → IsBest masses sides other → IsNoLater side other

-- ---- what the search keeps
-- the number of the vertices
abbrev pub count_of : Ranked → ℕ
count_of k = length k.ranges.order.items

-- the vertex at a place
abbrev pub vertex_at : Ranked → ℕ → ℕ
vertex_at k p = slice_index k.ranges.order.items p

-- the side at a range
abbrev pub side_of : Ranked → Range → List ℕ
side_of k r = side_at (count_of k) k.ranges.order.items r

-- the range has the balance that is sought
abbrev pub IsWanted : Ranked → Range → Type 0
IsWanted k r = range_balance k.ranges r ≡ k.high

-- a place of one range that another does not have
abbrev pub IsBeyond : Range → Range → ℕ → Type 0
IsBeyond r other p = (r.from ≤ p) × (p < r.to) × ((p < other.from) ⊎ (other.to ≤ p))

-- vertices, each of which is there once, trees of minima over them and over their differences to the greatest number
-- of 32 bits, and a balance that a side can have
pub record IsRanked (k : Ranked) : Type 0 where
  pub once : AreOnce (count_of k) k.ranges.order.items
  pub half : 2 * k.high ≤ total_mass k.ranges
  pub least : IsMinTree k.least
  pub least_size : k.least.size ≡ count_of k
  pub least_is : (p : ℕ) → p < count_of k → leaf_at k.least p ≡ vertex_at k p
  pub wanting : IsMinTree k.wanting
  pub wanting_size : k.wanting.size ≡ count_of k
  pub wanting_is : (p : ℕ) → p < count_of k → leaf_at k.wanting p + vertex_at k p ≡ 4294967295

-- the cuts of a cactus over n vertices with these masses and sides, and the trees of minima
pub record IsRankedOf (n : ℕ) (masses : List ℕ) (sides : List (List ℕ)) (k : Ranked) : Type 0 where
  pub weighed : IsWeighed n masses k.ranges
  pub least : IsMinTree k.least
  pub least_size : k.least.size ≡ count_of k
  pub least_is : (p : ℕ) → p < count_of k → leaf_at k.least p ≡ vertex_at k p
  pub wanting : IsMinTree k.wanting
  pub wanting_size : k.wanting.size ≡ count_of k
  pub wanting_is : (p : ℕ) → p < count_of k → leaf_at k.wanting p + vertex_at k p ≡ 4294967295
  pub shown : map (side_at n k.ranges.order.items) (ranges_between k.ranges.borders.items) ≡ sides

-- the side of what was found, if anything was, does not come after the side at a range
abbrev pub IsNotAfter : Ranked → Option Span → Range → Type 0
IsNotAfter k None r = ⊥
IsNotAfter k (Some s) r = IsNoLater (side_of k (range_of s)) (side_of k r)

-- what was found is the range of a cut of the balance
abbrev pub IsFound : Ranked → Option Span → Type 0
IsFound k None = ⊤
IsFound k (Some s) = Contains (ranges_between k.ranges.borders.items) (range_of s) × IsWanted k (range_of s)

-- ---- ranges between borders of one block
-- the place of a border
abbrev pub place_at : Ranked → ℕ → ℕ
place_at k i = (border_at k.ranges.borders.items i).place

-- the side at the range from one border to another
abbrev pub side_between : Ranked → ℕ → ℕ → List ℕ
side_between k start end = side_of k (range_between k.ranges.borders.items start end)

abbrev pub range_at : Ranked → Ends → Range
range_at k e = range_between k.ranges.borders.items e.start e.end

-- a range from a border to a later one of its block, which lies within another such range
pub record IsWithin (k : Ranked) (bounds inner : Ends) : Type 0 where
  pub start : bounds.start ≤ inner.start
  pub some : inner.start < inner.end
  pub end : inner.end ≤ bounds.end
  pub block : bounds.end ≤ last_of k.ranges bounds.start

-- a vertex of at most a given number is at a place from one border to before another
abbrev pub HasUpTo : Ranked → ℕ → ℕ → ℕ → Type 0
HasUpTo k from to vertex = (p : ℕ) × (place_at k from ≤ p) × (p < place_at k to) × (vertex_at k p ≤ vertex)

-- one end of a range was moved on, over borders; the last of these took in a vertex of at most a given number
abbrev pub IsTaken : Ranked → Ends → Ends → ℕ → Type 0
IsTaken k old new vertex =
    ((new.start < old.start) × HasUpTo k new.start (new.start + 1) vertex × (new.end ≡ old.end))
    ⊎ ((new.start ≡ old.start) × (i : ℕ) × (new.end ≡ i + 1) × (old.end ≤ i) × HasUpTo k i (i + 1) vertex)

-- no range between two borders is empty
abbrev pub NoneEmpty : Ranked → Type 0
NoneEmpty k = (i : ℕ) → 0 < (border_at k.ranges.borders.items i).following → place_at k i < place_at k (i + 1)

-- the range of a cut that is empty, or none is
abbrev pub IsEmptyOne : Ranked → Option Span → Type 0
IsEmptyOne k None = NoneEmpty k
IsEmptyOne k (Some s) = Contains (ranges_between k.ranges.borders.items) (range_of s) × (s.from ≡ s.to)

-- a range between two borders of a block that has the balance
abbrev pub IsFoundAt : Ranked → Option Ends → Type 0
IsFoundAt k None = ⊤
IsFoundAt k (Some f) = (f.start < f.end) × (f.end ≤ last_of k.ranges f.start) × IsWanted k (range_at k f)

-- the side of what was found does not come after that at a range between two borders
abbrev pub IsNotAfterAt : Ranked → Option Ends → Option Span → Type 0
IsNotAfterAt k None found = ⊤
IsNotAfterAt k (Some f) found = IsNotAfter k found (range_at k f)

-- from each border of one block, from one on, up to another there is no mass
abbrev pub IsRun : Ranked → ℕ → ℕ → Type 0
IsRun k first start = (i : ℕ) → first ≤ i → i < start → (last_of k.ranges i ≡ last_of k.ranges start) × (mass_between k.ranges i start ≡ 0)

-- of the ranges of a mass that begin at a border from one on up to another, one whose side comes first, if there are any
abbrev pub IsFirstOfRun : Ranked → ℕ → ℕ → ℕ → Option Ends → Type 0
IsFirstOfRun k mass first start None = (s e : ℕ) → first ≤ s → s ≤ start → s < e → e ≤ last_of k.ranges s → mass_between k.ranges s e ≡ mass → ⊥
IsFirstOfRun k mass first start (Some f) =
    (f.start < f.end) × (f.end ≤ last_of k.ranges f.start) × (mass_between k.ranges f.start f.end ≡ mass)
    × ((s e : ℕ) → first ≤ s → s ≤ start → s < e → e ≤ last_of k.ranges s → mass_between k.ranges s e ≡ mass → IsNoLater (side_between k f.start f.end) (side_between k s e))

-- the first of the sides at the ranges of a mass that begin before a border, but for a run up to it, and the ends for the next one
pub record IsFirstBefore (k : Ranked) (mass start : ℕ) (s : Search) : Type 0 where
  pub found : IsFound k s.found
  pub first : s.first ≤ start
  pub before : (i e : ℕ) → i < s.first → i < e → e ≤ last_of k.ranges i → mass_between k.ranges i e ≡ mass → IsNotAfter k s.found (range_between k.ranges.borders.items i e)
  pub run : IsRun k s.first start
  pub light : IsShort k.ranges mass start s.light
  pub heavy : IsShort k.ranges (mass + 1) start s.heavy
