-- Ranges between the borders of blocks, weighed by the masses before their ends.
use Rattle.std.specs.Prelude.{ℕ, ◌+◌, ◌-◌, ◌≤◌, ◌<◌, ◌≡◌, true, List, length, min, slice_index}
use Rattle.cut_definitions.specs.Cuts.{has}
use Rattle.rooted_cactus.specs.Borders.{border_at, range_between}
use Rattle.rooted_cactus.specs.CutRanges.{Range}
use Rattle.rooted_cactus.specs.Places.{AreOnce}
use Rattle.cactus_walk.specs.RangeMasses.{mass_before}
use Rattle.cactus_walk.specs.declared.walk.ranges.CutRanges.{CutRanges}
use Rattle.cactus_walk.specs.declared.walk.shown.Span.{Span}

abbrev pub range_of : Span → Range
range_of s = record { from = s.from; to = s.to }

-- a range of n places, which may be empty
abbrev pub IsRangeOf : ℕ → Range → Type 0
IsRangeOf n r = (r.from ≤ r.to) × (r.to ≤ n)

-- the mass of the vertices before a place
abbrev pub mass_to : CutRanges → ℕ → ℕ
mass_to c place = slice_index c.sums.items place

-- the masses before the places are those of the vertices before them
abbrev pub AreSumsOf : List ℕ → CutRanges → Type 0
AreSumsOf masses c = (k : ℕ) → k ≤ length c.order.items → mass_to c k ≡ mass_before masses c.order.items k

-- a list of n vertices, each once, with the masses before their places
pub record IsWeighed (n : ℕ) (masses : List ℕ) (c : CutRanges) : Type 0 where
  pub counted : length masses ≡ n
  pub long : length c.order.items ≡ n
  pub once : AreOnce n c.order.items
  pub every : (v : ℕ) → 1 ≤ v → v ≤ n → has c.order.items v ≡ true
  pub sums : AreSumsOf masses c

-- the mass of all vertices
abbrev pub total_mass : CutRanges → ℕ
total_mass c = mass_to c (length c.order.items)

-- the mass of the vertices at the places of a range
abbrev pub span_mass : CutRanges → Range → ℕ
span_mass c r = mass_to c r.to - mass_to c r.from

-- the lesser of the mass of a range and that of all other places
abbrev pub range_balance : CutRanges → Range → ℕ
range_balance c r = min (span_mass c r) (total_mass c - span_mass c r)

-- ---- ranges between borders of one block
-- the mass of the vertices before a border
abbrev pub mass_at : CutRanges → ℕ → ℕ
mass_at c i = mass_to c (border_at c.borders.items i).place

-- the last border of the block of a border
abbrev pub last_of : CutRanges → ℕ → ℕ
last_of c i = i + (border_at c.borders.items i).following

-- the mass of the range from one border to another
abbrev pub mass_between : CutRanges → ℕ → ℕ → ℕ
mass_between c start end = span_mass c (range_between c.borders.items start end)

-- the ranges from a border to those of its block that are before an end have less than a mass
pub record IsShort (c : CutRanges) (mass start end : ℕ) : Type 0 where
  pub within : end ≤ last_of c start + 1
  pub less : (e : ℕ) → start < e → e < end → mass_between c start e < mass
