-- An end that moves along the borders of a block: all ranges of the block that can be best are weighed.
use Rattle.std.proofs.Common.{◌≡◌, ◌≢◌, ℕ, zero, suc, ◌+◌, ◌-◌, ◌/◌, ◌≤◌, ◌<◌, min, max, inl, inr, List, [], ◌∷◌, ◌++◌, length, drop, ap, ◌∙◌, sym, refl, subst, arith, append_assoc}
use Rattle.std.specs.List.{Contains}
use Rattle.std.proofs.lemmas.List.{append-nil}
use Rattle.std.proofs.lemmas.List.Elements.{All-nil, All-append, All-weaker}
use Rattle.std.proofs.lemmas.Bool.{cases_lt}
use Rattle.rooted_cactus.specs.Borders.{ranges_between, border_at, range_between}
use Rattle.rooted_cactus.specs.CutRanges.{Range}
use Rattle.rooted_cactus.specs.declared.tree.border.Border.{Border}
use Rattle.cactus_walk.specs.Weighing.{IsRangeOf, IsShort, last_of, mass_at, mass_between, range_balance, total_mass}
use Rattle.cactus_walk.specs.declared.walk.ranges.CutRanges.{CutRanges}
use Rattle.cactus_walk.proofs.Between.{behind_there, between_is, border_there, from_here}
use Rattle.cactus_walk.proofs.Stepping.{end_passed}
use Rattle.cactus_walk.proofs.Weighing.{mass_rises, mass_small, short_next}
use Rattle.balanced_cut.specs.Ends.{IsBestBefore, NoneGreater, half_mass}

-- ---- the better of two
pub record IsBetter (c : CutRanges) (best contender result : Range) : Type 0 where
  pub put : range_balance c best < range_balance c contender → result ≡ contender
  pub kept : range_balance c contender ≤ range_balance c best → result ≡ best

-- the better of two is no worse than either
better_than : (c : CutRanges) (best contender result : Range) → IsBetter c best contender result → (range_balance c best ≤ range_balance c result) × (range_balance c contender ≤ range_balance c result)
better_than c best contender result h = elim (cases_lt (range_balance c best) (range_balance c contender)) [
  | inl less ↦ subst (λ r. (range_balance c best ≤ range_balance c r) × (range_balance c contender ≤ range_balance c r)) (sym (h.put less)) (le_of less, le_same (range_balance c contender))
  | inr more ↦ subst (λ r. (range_balance c best ≤ range_balance c r) × (range_balance c contender ≤ range_balance c r)) (sym (h.kept more)) (le_same (range_balance c best), more)
]
  where
    le_of : {a b : ℕ} → a < b → a ≤ b
    le_of h = omega (arith, h)

    le_same : (a : ℕ) → a ≤ a
    le_same a = omega arith

-- the better of two is one of them
better_one : (P : Range → Type 0) (c : CutRanges) (best contender result : Range) → IsBetter c best contender result → P best → P contender → P result
better_one P c best contender result h b d = elim (cases_lt (range_balance c best) (range_balance c contender)) [
  | inl less ↦ subst P (sym (h.put less)) d
  | inr more ↦ subst P (sym (h.kept more)) b
]

-- the better of two ranges of n places is one of n places
pub better_fits : (n : ℕ) (c : CutRanges) (best contender result : Range) → IsBetter c best contender result → IsRangeOf n best → IsRangeOf n contender → IsRangeOf n result
better_fits n c best contender result = better_one (IsRangeOf n) c best contender result

-- ---- one border more
-- a range that ends before no less mass than another, of less than half of all mass
short_one : (total half from mass last : ℕ) → half ≡ total - total / 2 → from ≤ mass → mass ≤ last → last ≤ total → last - from < half → min (mass - from) (total - (mass - from)) ≤ min (last - from) (total - (last - from))
short_one total half from mass last is fp pl ln less = omega (arith, is, fp, pl, ln, less)

-- a range that ends before no more mass than another, of half of all mass or more
long_one : (total half from to mass : ℕ) → half ≡ total - total / 2 → from ≤ to → to ≤ mass → mass ≤ total → half ≤ to - from → min (mass - from) (total - (mass - from)) ≤ min (to - from) (total - (to - from))
long_one total half from to mass is ft tp pn more = omega (arith, is, ft, tp, pn, more)

-- no range from a border to another of its block has a greater balance than those up to the moving end and just before it
at_most : (c : CutRanges) (start end longer shorter high : ℕ) → start < end → IsShort c (half_mass c) start end → (end ≤ last_of c start → half_mass c ≤ mass_between c start end) →
    longer ≡ min end (last_of c start) → shorter ≡ max (end - 1) (start + 1) → range_balance c (range_between c.borders.items start longer) ≤ high → range_balance c (range_between c.borders.items start shorter) ≤ high →
    (e : ℕ) → start < e → e ≤ last_of c start → range_balance c (range_between c.borders.items start e) ≤ high
at_most c start end longer shorter high se short reached long_is short_is a b e le few =
    let n = length c.order.items in
    let bs = c.borders.items in
    let there : (i : ℕ) → start < i → i ≤ last_of c start → mass_at c i ≤ total_mass c = λ i l m. mass_small c i (behind_there n bs start i c.within l m) in
    elim (cases_lt e end) [
      | inl before ↦
          let last : shorter ≡ end - 1 = omega (arith, short_is, le, before) in
          let one = short_one (total_mass c) (half_mass c) (mass_at c start) (mass_at c e) (mass_at c (end - 1)) refl
          (mass_rises c start start e (omega arith) (omega (arith, le)) le few)
          (mass_rises c start e (end - 1) (omega (arith, le)) (omega (arith, before)) (omega (arith, le, before)) (omega (arith, short.within)))
          (there (end - 1) (omega (arith, le, before)) (omega (arith, short.within))) (short.less (end - 1) (omega (arith, le, before)) (omega (arith, se))) in
          let low : range_balance c (range_between bs start (end - 1)) ≤ high = subst (λ k. range_balance c (range_between bs start k) ≤ high) last b in
          le_trans one low
      | inr behind ↦
          let first : longer ≡ end = omega (arith, long_is, behind, few) in
          let one = long_one (total_mass c) (half_mass c) (mass_at c start) (mass_at c end) (mass_at c e) refl
          (mass_rises c start start end (omega arith) (omega (arith, se)) se (omega (arith, behind, few)))
          (mass_rises c start end e (omega (arith, se)) behind le few) (there e le few) (reached (omega (arith, behind, few))) in
          let low : range_balance c (range_between bs start end) ≤ high = subst (λ k. range_balance c (range_between bs start k) ≤ high) first a in
          le_trans one low
    ]
  where
    le_trans : {a b c : ℕ} → a ≤ b → b ≤ c → a ≤ c
    le_trans h k = omega (arith, h, k)

-- at the last border of a block no range begins
pub block_ends : (c : CutRanges) (start : ℕ) (best : Range) (end : ℕ) → start < length c.borders.items → start ≡ last_of c start → IsBestBefore c start best end → IsBestBefore c (start + 1) best end
block_ends c start best end there last before = record {
  member = before.member;
  weighed = before.weighed;
  split = before.split ∙ ap (λ l. before.weighed ++ l) (sym (end_passed c.borders.items start (start + 1) there (omega (arith, last)) refl));
  none_greater = before.none_greater;
  short = short_next c (half_mass c) start end before.short;
}

-- the ranges up to the moving end and just before it were weighed
pub moved_on : (c : CutRanges) (start : ℕ) (best mid new : Range) (old end longer shorter : ℕ) → start < last_of c start → start < end → IsShort c (half_mass c) start end → (end ≤ last_of c start → half_mass c ≤ mass_between c start end) →
    longer ≡ min end (last_of c start) → shorter ≡ max (end - 1) (start + 1) → IsBetter c best (range_between c.borders.items start longer) mid → IsBetter c mid (range_between c.borders.items start shorter) new →
    IsBestBefore c start best old → IsBestBefore c (start + 1) new end
moved_on c start best mid new old end longer shorter some se short reached long_is short_is one two before =
    let n = length c.order.items in
    let bs = c.borders.items in
    let InAll = Contains (ranges_between bs) in
    let a = better_than c best (range_between bs start longer) mid one in
    let b = better_than c mid (range_between bs start shorter) new two in
    let here = from_here (λ r. range_balance c r ≤ range_balance c new) n bs start (start + 1) c.within (border_there bs start (omega (arith, some))) refl
    (at_most c start end longer shorter (range_balance c new) se short reached long_is short_is (le_trans a.1 b.0) b.1) in
    record {
      member = better_one InAll c mid (range_between bs start shorter) new two
          (better_one InAll c best (range_between bs start longer) mid one before.member (between_is n bs start longer c.within (omega (arith, long_is, some, se)) (omega (arith, long_is))))
          (between_is n bs start shorter c.within (omega (arith, short_is)) (omega (arith, short_is, some, short.within)));
      weighed = before.weighed ++ here.here;
      split = before.split ∙ ap (λ l. before.weighed ++ l) here.split ∙ sym (append_assoc before.weighed here.here (ranges_between (drop (start + 1) bs)));
      none_greater = All-append (λ r. range_balance c r ≤ range_balance c new) before.weighed here.here
          (All-weaker (λ r. range_balance c r ≤ range_balance c best) (λ r. range_balance c r ≤ range_balance c new) (λ r l. le_trans l (le_trans a.0 b.0)) before.weighed before.none_greater)
          here.all;
      short = short_next c (half_mass c) start end short;
    }
  where
    le_trans : {a b c : ℕ} → a ≤ b → b ≤ c → a ≤ c
    le_trans h k = omega (arith, h, k)

-- ---- the first border
-- nothing is behind the end of a list
pub none_past : {X : Type 0} (xs : List X) (k : ℕ) → length xs ≤ k → drop k xs ≡ []
none_past [] zero h = refl
none_past [] (suc k) h = refl
none_past (x ∷ xs) zero h = absurd (omega (arith, h))
none_past (x ∷ xs) (suc k) h = none_past xs k (omega (arith, h))

-- if there is a range, a border that others follow is found
pub first_there : (bs : List Border) (first : ℕ) → ranges_between bs ≢ [] → ranges_between (drop first bs) ≡ ranges_between (drop 0 bs) → first < length bs
first_there bs first some same = elim (cases_lt first (length bs)) [
  | inl there ↦ there
  | inr past ↦ absurd (some (sym same ∙ ap ranges_between (none_past bs first past)))
]

-- before the first border nothing was weighed
pub at_first : (c : CutRanges) (first : ℕ) (best : Range) → 0 < (border_at c.borders.items first).following → ranges_between (drop first c.borders.items) ≡ ranges_between (drop 0 c.borders.items) →
    best ≡ range_between c.borders.items first (first + 1) → IsBestBefore c first best first
at_first c first best some same is = record {
  member = subst (Contains (ranges_between c.borders.items)) (sym is) (between_is (length c.order.items) c.borders.items first (first + 1) c.within (omega arith) (omega (arith, some)));
  weighed = [];
  split = sym same;
  none_greater = All-nil (λ r. range_balance c r ≤ range_balance c best);
  short = record { within = omega arith; less = λ e l m. absurd (omega (arith, l, m)) };
}

-- ---- the last border
-- behind the last border all ranges were weighed
pub all_weighed : (c : CutRanges) (start : ℕ) (best : Range) (end : ℕ) → length c.borders.items ≤ start → IsBestBefore c start best end → NoneGreater c (ranges_between c.borders.items) best
all_weighed c start best end past is =
    let bs = c.borders.items in
    let whole : ranges_between bs ≡ is.weighed = is.split ∙ ap (λ l. is.weighed ++ ranges_between l) (none_past bs start past) ∙ append-nil is.weighed in
    subst (λ l. NoneGreater c l best) (sym whole) is.none_greater
