-- The ranges between the borders of blocks that have a least balance.
use Rattle.std.specs.Prelude.{ℕ, ◌+◌, ◌-◌, ◌≤◌, ◌<◌, nat_le, Bool, List, drop, take}
use Rattle.rooted_cactus.specs.Borders.{border_at, ranges_to}
use Rattle.rooted_cactus.specs.CutRanges.{Range}
use Rattle.rooted_cactus.specs.declared.tree.border.Border.{Border}
use Rattle.cactus_walk.specs.Weighing.{IsShort, last_of, mass_between, range_balance, total_mass}
use Rattle.cactus_walk.specs.declared.walk.ranges.CutRanges.{CutRanges}

-- whether the balance of a range is at least a number
abbrev pub is_heavy : CutRanges → ℕ → Range → Bool
is_heavy c least r = nat_le least (range_balance c r)

-- the ranges from a border to those from one on that are before another
abbrev pub ranges_of : List Border → ℕ → ℕ → ℕ → List Range
ranges_of bs start from to = ranges_to (border_at bs start).place (take (to - from) (drop from bs))

-- ends before which the ranges from a border have less than the least mass, and no more than leaves the least to the others
pub record AreShort (c : CutRanges) (least start from to : ℕ) : Type 0 where
  pub low : IsShort c least start from
  pub high : IsShort c (total_mass c - least + 1) start to

-- the first such ends from which on they have not
pub record AreEnds (c : CutRanges) (least start from to : ℕ) : Type 0 where
  pub behind : start < from
  pub behind_to : start < to
  pub short : AreShort c least start from to
  pub enough : from ≤ last_of c start → least ≤ mass_between c start from
  pub too_much : to ≤ last_of c start → total_mass c - least + 1 ≤ mass_between c start to
