-- The ranges from each border to each later one of its block: which there are, and that they are ranges of the list.
use Rattle.std.proofs.Common.{◌≡◌, ℕ, zero, suc, ◌+◌, ◌-◌, ◌≤◌, ◌<◌, inl, inr, List, [], ◌∷◌, ◌++◌, length, take, drop, ap, arith}
use Rattle.std.specs.List.{All, Contains}
use Rattle.std.proofs.lemmas.Bool.{cases_lt}
use Rattle.std.proofs.lemmas.List.Elements.{All-nil, All-cons, All-append, All-contains, Contains-append_left, Contains-append_right}
use Rattle.cut_definitions.proofs.Lists.{Contains-here, Contains-there}
use Rattle.rooted_cactus.specs.Borders.{ranges_to, ranges_between, border_at, range_between}
use Rattle.rooted_cactus.specs.CutRanges.{Range}
use Rattle.rooted_cactus.specs.declared.tree.border.Border.{Border}
use Rattle.cactus_walk.specs.Walking.{AreBorders, AreChained}
use Rattle.cactus_walk.specs.Weighing.{IsRangeOf}
use Rattle.cactus_walk.proofs.Chains.{no_less}
use Rattle.cactus_walk.proofs.Stepping.{end_there, place_within}

-- ---- borders of one block
-- a border which others follow is there
pub border_there : (bs : List Border) (i : ℕ) → 0 < (border_at bs i).following → i < length bs
border_there [] i h = absurd (omega (arith, h))
border_there (b ∷ bs) zero h = omega arith
border_there (b ∷ bs) (suc i) h = omega (arith, border_there bs i h)

-- a border behind another of its block is there
pub behind_there : (n : ℕ) (bs : List Border) (i e : ℕ) → AreBorders n bs → i < e → e ≤ i + (border_at bs i).following → e < length bs
behind_there n bs i e h ie few = end_there n bs i (e - i - 1) e h (border_there bs i (omega (arith, ie, few))) (omega (arith, ie, few)) (omega (arith, ie))

-- each border of a block is there
pub block_there : (n : ℕ) (bs : List Border) (i e : ℕ) → AreBorders n bs → i < length bs → i ≤ e → e ≤ i + (border_at bs i).following → e < length bs
block_there n bs i e h w ie few = elim (cases_lt i e) [
  | inl l ↦ behind_there n bs i e h l few
  | inr l ↦ omega (arith, l, ie, w)
]

-- the range between two borders of a block is one of n places
pub between_fits : (n : ℕ) (bs : List Border) (i e : ℕ) → AreBorders n bs → AreChained bs → i < e → e ≤ i + (border_at bs i).following → IsRangeOf n (range_between bs i e)
between_fits n bs i e h c ie few =
    (no_less bs i i e c (omega arith) (omega (arith, ie)) few, place_within n bs e h (behind_there n bs i e h ie few))

-- ---- the ranges that begin at one border
-- what holds of the range to each of the next borders holds of all these ranges
all_to : (P : Range → Type 0) (from : ℕ) (bs : List Border) (m : ℕ) → m ≤ length bs → ((k : ℕ) → k < m → P (record { from = from; to = (border_at bs k).place })) → All P (ranges_to from (take m bs))
all_to P from bs zero w h = All-nil P
all_to P from [] (suc m) w h = absurd (omega (arith, w))
all_to P from (b ∷ bs) (suc m) w h =
    All-cons P (record { from = from; to = b.place }) (ranges_to from (take m bs)) (h 0 (omega arith)) (all_to P from bs m (omega (arith, w)) (λ k l. h (suc k) (omega (arith, l))))

-- the ranges from a border on are those that begin there, and those from the next border on
pub record FromHere (P : Range → Type 0) (bs : List Border) (start next : ℕ) : Type 0 where
  pub here : List Range
  pub split : ranges_between (drop start bs) ≡ here ++ ranges_between (drop next bs)
  pub all : All P here

-- what holds of the range to each later border of the block holds of all ranges that begin here
pub from_here : (P : Range → Type 0) (n : ℕ) (bs : List Border) (start next : ℕ) → AreBorders n bs → start < length bs → next ≡ start + 1 →
    ((e : ℕ) → start < e → e ≤ start + (border_at bs start).following → P (range_between bs start e)) → FromHere P bs start next
from_here P n [] start next h w e all = absurd (omega (arith, w))
from_here P n (b ∷ bs) start zero h w e all = absurd (omega (arith, e))
from_here P n (b ∷ bs) zero (suc next) h w e all = record {
  here = ranges_to b.place (take b.following bs);
  split = let z : 0 ≡ next = omega (arith, e) in ap (λ k. ranges_to b.place (take b.following bs) ++ ranges_between (drop k bs)) z;
  all = all_to P b.place bs b.following h.1 (λ k l. all (suc k) (omega arith) (omega (arith, l)));
}
from_here P n (b ∷ bs) (suc start) (suc next) h w e all =
    let rest = from_here P n bs start next h.2 (omega (arith, w)) (omega (arith, e)) (λ k l m. all (suc k) (omega (arith, l)) (omega (arith, m))) in
    record { here = rest.here; split = rest.split; all = rest.all }

-- the range to one of the next borders is among them
contains_to : (from : ℕ) (bs : List Border) (m k : ℕ) → m ≤ length bs → k < m → Contains (ranges_to from (take m bs)) (record { from = from; to = (border_at bs k).place })
contains_to from bs zero k w l = absurd (omega (arith, l))
contains_to from [] (suc m) k w l = absurd (omega (arith, w))
contains_to from (b ∷ bs) (suc m) zero w l = Contains-here (record { from = from; to = b.place }) (ranges_to from (take m bs))
contains_to from (b ∷ bs) (suc m) (suc k) w l =
    Contains-there (record { from = from; to = b.place }) (ranges_to from (take m bs)) (record { from = from; to = (border_at bs k).place }) (contains_to from bs m k (omega (arith, w)) (omega (arith, l)))

-- the range between two borders of a block is that of a cut
pub between_is : (n : ℕ) (bs : List Border) (i e : ℕ) → AreBorders n bs → i < e → e ≤ i + (border_at bs i).following → Contains (ranges_between bs) (range_between bs i e)
between_is n [] i e h l m = absurd (omega (arith, l, m))
between_is n (b ∷ bs) i zero h l m = absurd (omega (arith, l))
between_is n (b ∷ bs) zero (suc e) h l m =
    Contains-append_left (ranges_to b.place (take b.following bs)) (ranges_between bs) (range_between (b ∷ bs) 0 (suc e)) (contains_to b.place bs b.following e h.1 (omega (arith, m)))
between_is n (b ∷ bs) (suc i) (suc e) h l m =
    Contains-append_right (ranges_to b.place (take b.following bs)) (ranges_between bs) (range_between bs i e) (between_is n bs i e h.2 (omega (arith, l)) (omega (arith, m)))

-- ---- all ranges
-- all ranges are ranges of n places
pub ranges_fit : (n : ℕ) (bs : List Border) → AreBorders n bs → AreChained bs → All (IsRangeOf n) (ranges_between bs)
ranges_fit n [] h c = All-nil (IsRangeOf n)
ranges_fit n (b ∷ bs) h c =
    All-append (IsRangeOf n) (ranges_to b.place (take b.following bs)) (ranges_between bs)
    (all_to (IsRangeOf n) b.place bs b.following h.1 (λ k l. between_fits n (b ∷ bs) 0 (suc k) h c (omega arith) (omega (arith, l))))
    (ranges_fit n bs h.2 c.1)

-- any one of the ranges is a range of n places
pub best_fits : (n : ℕ) (bs : List Border) (r : Range) → AreBorders n bs → AreChained bs → Contains (ranges_between bs) r → IsRangeOf n r
best_fits n bs r h c is = All-contains (IsRangeOf n) (ranges_between bs) r (ranges_fit n bs h c) is
