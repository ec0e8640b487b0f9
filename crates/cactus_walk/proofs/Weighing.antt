-- The masses of ranges, and of those between the borders of one block.
use Rattle.std.proofs.Common.{◌≡◌, ℕ, ◌+◌, ◌-◌, ◌≤◌, ◌<◌, ◌^◌, inl, inr, max, min, List, length, ap, ◌∙◌, sym, refl, subst, arith}
use Rattle.std.specs.List.{All}
use Rattle.std.proofs.lemmas.Bool.{cases_eq, cases_lt}
use Rattle.cut_definitions.specs.Balance.{AreMasses, balance, mass}
use Rattle.cut_definitions.specs.Cuts.{has}
use Rattle.cut_definitions.specs.Graph.{IsVertex}
use Rattle.cut_definitions.specs.Weight.{complement}
use Rattle.rooted_cactus.specs.Borders.{border_at}
use Rattle.rooted_cactus.specs.CutRanges.{Range}
use Rattle.rooted_cactus.specs.Places.{side_at}
use Rattle.cactus_walk.specs.RangeMasses.{mass_before}
use Rattle.cactus_walk.specs.Weighing.{IsRangeOf, IsShort, IsWeighed, last_of, mass_at, mass_between, range_balance, span_mass, total_mass}
use Rattle.cactus_walk.specs.declared.walk.ranges.CutRanges.{CutRanges}
use Rattle.cactus_walk.proofs.Between.{behind_there}
use Rattle.cactus_walk.proofs.Chains.{next_at, no_less}
use Rattle.cactus_walk.proofs.RangeMasses.{before_bound, side_balance}
use Rattle.cactus_walk.proofs.Stepping.{place_within}

-- the masses of this many vertices are small
pub sums_small : (masses order : List ℕ) → AreMasses masses → All (IsVertex (length masses)) order → length order ≡ length masses → mass_before masses order (length order) < 2 ^ 86
sums_small masses order are all same = omega (arith, before_bound masses order (length order) are all (omega arith), are.few, same)

-- ---- sides at ranges
-- a side at a range has the balance of the range
pub same_balance : (n : ℕ) (masses : List ℕ) (c : CutRanges) (r : Range) → IsWeighed n masses c → IsRangeOf n r → balance masses (side_at n c.order.items r) ≡ range_balance c r
same_balance n masses c r is fits =
    let order = c.order.items in
    let vertices : All (IsVertex n) order = subst (λ m. All (IsVertex m) order) is.long c.vertices in
    let parts = side_balance n masses order is.counted is.once vertices is.every r.from r.to fits.0 (omega (arith, fits.1, is.long)) in
    let from = is.sums r.from (omega (arith, fits.0, fits.1, is.long)) in
    let to = is.sums r.to (omega (arith, fits.1, is.long)) in
    let own : mass masses (has (side_at n order r)) ≡ span_mass c r = omega (arith, parts.0, from, to) in
    let rest : mass masses (complement (has (side_at n order r))) ≡ total_mass c - span_mass c r = omega (arith, parts.1, from, to, is.sums (length order) (omega arith)) in
    ap (λ k. min k (mass masses (complement (has (side_at n order r))))) own ∙ ap (min (span_mass c r)) rest

-- ---- ranges between borders of one block
-- no border has more mass before it than all
pub mass_small : (c : CutRanges) (i : ℕ) → i < length c.borders.items → mass_at c i ≤ total_mass c
mass_small c i there = c.rising (border_at c.borders.items i).place (length c.order.items) (place_within (length c.order.items) c.borders.items i c.within there) (omega arith)

-- no more mass is before the earlier of two borders of a block
pub mass_rises : (c : CutRanges) (start a b : ℕ) → start ≤ a → a ≤ b → start < b → b ≤ last_of c start → mass_at c a ≤ mass_at c b
mass_rises c start a b from ab behind within =
    let bs = c.borders.items in
    c.rising (border_at bs a).place (border_at bs b).place (no_less bs start a b c.chained from ab within)
    (place_within (length c.order.items) bs b c.within (behind_there (length c.order.items) bs start b c.within behind within))

-- a range between two borders has no more mass than all
pub mass_whole : (c : CutRanges) (start end : ℕ) → start < end → end ≤ last_of c start → mass_between c start end ≤ total_mass c
mass_whole c start end behind within = omega (arith, mass_small c end (behind_there (length c.order.items) c.borders.items start end c.within behind within))

-- a longer range has no less mass
pub longer : (c : CutRanges) (start a b : ℕ) → start < a → a ≤ b → b ≤ last_of c start → mass_between c start a ≤ mass_between c start b
longer c start a b behind ab within = omega (arith, mass_rises c start a b (omega (arith, behind)) ab (omega (arith, behind, ab)) within)

-- ---- an end up to which ranges have less than a mass
pub short_start : (c : CutRanges) (mass start from end : ℕ) → end ≡ max from (start + 1) → IsShort c mass start from → IsShort c mass start end
short_start c mass start from end e are = record {
  within = omega (arith, e, are.within);
  less = λ i behind to. are.less i behind (omega (arith, e, behind, to));
}

pub short_more : (c : CutRanges) (mass start end : ℕ) → end ≤ last_of c start → mass_between c start end < mass → IsShort c mass start end → IsShort c mass start (end + 1)
short_more c mass start end within less are = record {
  within = omega (arith, within);
  less = λ i behind to. elim (cases_eq i end) [
    | inl e ↦ subst (λ j. mass_between c start j < mass) (sym e) less
    | inr ne ↦ are.less i behind (omega (arith, to, ne))
  ];
}

-- the ranges from the next border have no more mass
pub short_next : (c : CutRanges) (mass start end : ℕ) → IsShort c mass start end → IsShort c mass (start + 1) end
short_next c mass start end are = elim (cases_lt 0 (border_at c.borders.items start).following) [
  | inl some ↦
      let next = next_at c.borders.items start (start + 1) c.chained refl some in
      record {
        within = omega (arith, are.within, next.1);
        less = λ i behind to.
            let longer_less : mass_between c start i < mass = are.less i (omega (arith, behind)) to in
            omega (arith, longer_less, mass_rises c start start (start + 1) (omega arith) (omega arith) (omega arith) (omega (arith, some)));
      }
  | inr none ↦ record {
    within = omega (arith, are.within, none);
    less = λ i behind to. absurd (omega (arith, are.within, none, behind, to));
  }
]
