-- The side at a best range is a best side.
use Rattle.std.proofs.Common.{◌≡◌, ℕ, ◌≤◌, List, [], ◌∷◌, map, sym, subst}
use Rattle.std.specs.List.{All, Contains}
use Rattle.std.proofs.lemmas.List.Elements.{All-nil, All-cons, All-head, All-tail, All-map, All-contains}
use Rattle.cut_definitions.specs.Balance.{balance, IsBest}
use Rattle.cut_definitions.proofs.Lists.{Contains-map}
use Rattle.rooted_cactus.specs.CutRanges.{Range}
use Rattle.rooted_cactus.specs.Places.{side_at}
use Rattle.cactus_walk.specs.Weighing.{IsRangeOf, IsWeighed, range_balance}
use Rattle.cactus_walk.specs.declared.walk.ranges.CutRanges.{CutRanges}
use Rattle.cactus_walk.proofs.Weighing.{same_balance}
use Rattle.balanced_cut.specs.Ends.{NoneGreater}

-- if no range has a balance above a bound, no side at one of them has
none_better : (n high : ℕ) (masses : List ℕ) (c : CutRanges) (ranges : List Range) → IsWeighed n masses c → All (IsRangeOf n) ranges → All (λ r. range_balance c r ≤ high) ranges →
    All (λ r. balance masses (side_at n c.order.items r) ≤ high) ranges
none_better n high masses c [] is fit h = All-nil (λ r. balance masses (side_at n c.order.items r) ≤ high)
none_better n high masses c (r ∷ rs) is fit h =
    All-cons (λ r. balance masses (side_at n c.order.items r) ≤ high) r rs
    (subst (λ k. k ≤ high) (sym (same_balance n masses c r is (All-head (IsRangeOf n) r rs fit))) (All-head (λ r. range_balance c r ≤ high) r rs h))
    (none_better n high masses c rs is (All-tail (IsRangeOf n) r rs fit) (All-tail (λ r. range_balance c r ≤ high) r rs h))

-- the side at a range that no other exceeds is a side that no other exceeds
pub best_side : (n : ℕ) (masses : List ℕ) (c : CutRanges) (ranges : List Range) (sides : List (List ℕ)) (r : Range) (side : List ℕ) → IsWeighed n masses c → All (IsRangeOf n) ranges → Contains ranges r →
    NoneGreater c ranges r → map (side_at n c.order.items) ranges ≡ sides → side ≡ side_at n c.order.items r → IsBest masses sides side
best_side n masses c ranges sides r side is fit member none same at =
    let place = side_at n c.order.items in
    let equal : balance masses (place r) ≡ range_balance c r = same_balance n masses c r is (All-contains (IsRangeOf n) ranges r fit member) in
    let best : IsBest masses (map place ranges) (place r) = record {
      member = Contains-map place ranges r member;
      none_greater = All-map (λ other. balance masses other ≤ balance masses (place r)) place ranges
          (subst (λ k. All (λ q. balance masses (place q) ≤ k) ranges) (sym equal) (none_better n (range_balance c r) masses c ranges is fit none));
    } in
    subst (λ t. IsBest masses sides t) (sym at) (subst (λ l. IsBest masses l (place r)) same best)
