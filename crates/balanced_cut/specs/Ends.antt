-- The best of the ranges between the borders of blocks, and an end that moves along the borders.
use Rattle.std.specs.Prelude.{ℕ, ◌-◌, ◌/◌, ◌≤◌, ◌≡◌, ◌++◌, List, drop}
use Rattle.std.specs.List.{All, Contains}
use Rattle.rooted_cactus.specs.Borders.{ranges_between}
use Rattle.rooted_cactus.specs.CutRanges.{Range}
use Rattle.cactus_walk.specs.Weighing.{IsShort, range_balance, total_mass}
use Rattle.cactus_walk.specs.declared.walk.ranges.CutRanges.{CutRanges}

-- none of several ranges has a greater balance
abbrev pub NoneGreater : CutRanges → List Range → Range → Type 0
NoneGreater c ranges best = All (λ (r : Range). range_balance c r ≤ range_balance c best) ranges

-- half of the mass of all vertices, rounded up
abbrev pub half_mass : CutRanges → ℕ
half_mass c = total_mass c - total_mass c / 2

-- the best of the ranges that begin before a border is known, and an end up to which those from this border on have less than half of all mass
pub record IsBestBefore (c : CutRanges) (start : ℕ) (best : Range) (end : ℕ) : Type 0 where
  pub member : Contains (ranges_between c.borders.items) best
  pub weighed : List Range
  pub split : ranges_between c.borders.items ≡ weighed ++ ranges_between (drop start c.borders.items)
  pub none_greater : NoneGreater c weighed best
  pub short : IsShort c (half_mass c) start end
