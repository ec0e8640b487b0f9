-- The search for the first of the best sides: what one border more adds, and what is known at the end.
use Rattle.std.proofs.Common.{◌≡◌, ℕ, suc, ◌+◌, ◌≤◌, ◌<◌, inl, inr, List, [], ◌∷◌, length, map, ap, ◌∙◌, sym, refl, subst, arith}
use Rattle.std.specs.Prelude.{Option, None, Some}
use Rattle.std.specs.List.{All, Contains}
use Rattle.std.proofs.lemmas.List.Elements.{All-nil, All-append, All-contains}
use Rattle.cut_definitions.specs.Balance.{balance, IsBest}
use Rattle.cut_definitions.proofs.Lists.{Contains-map, Contains-from_map}
use Rattle.rooted_cactus.specs.Borders.{border_at, ranges_between, range_between}
use Rattle.rooted_cactus.specs.CutRanges.{Range}
use Rattle.rooted_cactus.specs.Places.{side_at}
use Rattle.cactus_walk.specs.Walking.{AreBorders}
use Rattle.cactus_walk.specs.declared.walk.shown.Span.{Span}
use Rattle.cactus_walk.specs.Weighing.{IsWeighed, last_of, mass_between, range_of, total_mass}
use Rattle.cactus_walk.proofs.Between.{best_fits, block_there, from_here}
use Rattle.cactus_walk.proofs.Weighing.{mass_whole, same_balance}
use Rattle.canonical_cactus.specs.FirstBest.{IsFirstBefore, IsFirstBest, IsFound, IsNoLater, IsNotAfter, IsRanked, IsRankedOf, IsWanted, count_of, side_of}
use Rattle.canonical_cactus.specs.declared.first_side.Ranked.{Ranked}
use Rattle.canonical_cactus.specs.declared.first_side.Search.{Search}
use Rattle.canonical_cactus.proofs.Bands.{mass_by}
use Rattle.std.proofs.lemmas.Bool.{cases_lt}
use Rattle.rooted_cactus.specs.declared.tree.border.Border.{Border}

-- ---- border after border
-- before the first border there is only what was found before
pub search_begins : (k : Ranked) (mass : ℕ) (found : Option Span) → IsFound k found → IsFirstBefore k mass 0 record { found = found; first = 0; light = 0; heavy = 0 }
search_begins k mass found is = record {
  found = is;
  first = omega arith;
  before = λ i e a b c d. absurd (omega (arith, a));
  run = λ i a b. absurd (omega (arith, b));
  light = record { within = omega arith; less = λ e a b. absurd (omega (arith, b)) };
  heavy = record { within = omega arith; less = λ e a b. absurd (omega (arith, b)) };
}

-- after the last border all ranges of the mass were compared
pub search_ends : (k : Ranked) (mass start : ℕ) (s : Search) → start ≡ length k.ranges.borders.items → IsFirstBefore k mass start s →
    (i e : ℕ) → i < length k.ranges.borders.items → i < e → e ≤ last_of k.ranges i → mass_between k.ranges i e ≡ mass → IsNotAfter k s.found (range_between k.ranges.borders.items i e)
search_ends k mass start s all is i e there behind within mass_is = elim (cases_lt i s.first) [
  | inl l ↦ is.before i e l behind within mass_is
  | inr l ↦
      let one : last_of k.ranges i < length k.ranges.borders.items = block_there (count_of k) k.ranges.borders.items i (last_of k.ranges i) k.ranges.within there (omega arith) (omega arith) in
      absurd (omega (arith, one, (is.run i l (omega (arith, there, all))).0, all))
]

-- what holds of the range from each border to each later one of its block holds of all ranges
each_range : (P : Range → Type 0) (n : ℕ) (bs : List Border) → AreBorders n bs → ((i e : ℕ) → i < length bs → i < e → e ≤ i + (border_at bs i).following → P (range_between bs i e)) → All P (ranges_between bs)
each_range P n [] are all = All-nil P
each_range P n (b ∷ bs) are all =
    let here = from_here P n (b ∷ bs) 0 1 are (omega arith) refl (λ e from to. all 0 e (omega arith) from to) in
    subst (All P) (sym here.split) (All-append P here.here (ranges_between bs) here.all (each_range P n bs are.2 (λ i e there from to. all (suc i) (suc e) (omega (arith, there)) (omega (arith, from)) (omega (arith, to)))))

-- a range of the balance has one of two masses
pub both_searched : (k : Ranked) (rest : ℕ) (found : Option Span) → rest + k.high ≡ total_mass k.ranges →
    ((i e : ℕ) → i < length k.ranges.borders.items → i < e → e ≤ last_of k.ranges i → mass_between k.ranges i e ≡ k.high → IsNotAfter k found (range_between k.ranges.borders.items i e)) →
    ((i e : ℕ) → i < length k.ranges.borders.items → i < e → e ≤ last_of k.ranges i → mass_between k.ranges i e ≡ rest → IsNotAfter k found (range_between k.ranges.borders.items i e)) →
    (r : Range) → Contains (ranges_between k.ranges.borders.items) r → IsWanted k r → IsNotAfter k found r
both_searched k rest found whole of_high of_rest r member =
    let bs = k.ranges.borders.items in
    let all = each_range (λ r. IsWanted k r → IsNotAfter k found r) (count_of k) bs k.ranges.within (λ i e there behind within wanted.
    elim (mass_by k (range_between bs i e) wanted (mass_whole k.ranges i e behind within)) [
      | inl m ↦ of_high i e there behind within m
      | inr m ↦ of_rest i e there behind within (omega (arith, m, whole))
    ]) in
    All-contains (λ r. IsWanted k r → IsNotAfter k found r) (ranges_between bs) r all member

-- ---- what is known of a cactus
known_weighed : (n : ℕ) (masses : List ℕ) (sides : List (List ℕ)) (k : Ranked) → IsRankedOf n masses sides k → IsWeighed (count_of k) masses k.ranges
known_weighed n masses sides k known = subst (λ m. IsWeighed m masses k.ranges) (sym known.weighed.long) known.weighed

known_sides : (n : ℕ) (masses : List ℕ) (sides : List (List ℕ)) (k : Ranked) → IsRankedOf n masses sides k → map (side_of k) (ranges_between k.ranges.borders.items) ≡ sides
known_sides n masses sides k known = subst (λ m. map (side_at m k.ranges.order.items) (ranges_between k.ranges.borders.items) ≡ sides) (sym known.weighed.long) known.shown

-- a range of the best side
record IsThere (k : Ranked) (some : List ℕ) : Type 0 where
  range : Range
  member : Contains (ranges_between k.ranges.borders.items) range
  wanted : IsWanted k range
  is : side_of k range ≡ some

there_is : (n : ℕ) (masses : List ℕ) (sides : List (List ℕ)) (k : Ranked) (some : List ℕ) → IsRankedOf n masses sides k → IsBest masses sides some → k.high ≡ balance masses some → IsThere k some
there_is n masses sides k some known best high =
    let bs = k.ranges.borders.items in
    let found = Contains-from_map (side_of k) (ranges_between bs) some (subst (λ l. Contains l some) (sym (known_sides n masses sides k known)) best.member) in
    let fits = best_fits (count_of k) bs found.0 k.ranges.within k.ranges.chained found.1 in
    record {
      range = found.0;
      member = found.1;
      wanted = sym (same_balance (count_of k) masses k.ranges found.0 (known_weighed n masses sides k known) fits) ∙ ap (balance masses) found.2 ∙ sym high;
      is = found.2;
    }

pub known_ranked : (n : ℕ) (masses : List ℕ) (sides : List (List ℕ)) (k : Ranked) (some : List ℕ) → IsRankedOf n masses sides k → IsBest masses sides some → k.high ≡ balance masses some → IsRanked k
known_ranked n masses sides k some known best high =
    let there = there_is n masses sides k some known best high in
    let fits = best_fits (count_of k) k.ranges.borders.items there.range k.ranges.within k.ranges.chained there.member in
    record {
      once = (known_weighed n masses sides k known).once;
      half = omega (arith, there.wanted, k.ranges.rising there.range.to (count_of k) fits.1 (omega arith));
      least = known.least;
      least_size = known.least_size;
      least_is = known.least_is;
      wanting = known.wanting;
      wanting_size = known.wanting_size;
      wanting_is = known.wanting_is;
    }

-- some side is found
pub known_some : (n : ℕ) (masses : List ℕ) (sides : List (List ℕ)) (k : Ranked) (some : List ℕ) → IsRankedOf n masses sides k → IsBest masses sides some → k.high ≡ balance masses some →
    ((r : Range) → Contains (ranges_between k.ranges.borders.items) r → IsWanted k r → IsNotAfter k None r) → ⊥
known_some n masses sides k some known best high none =
    let there = there_is n masses sides k some known best high in
    none there.range there.member there.wanted

same_best : (a b : ℕ) → a ≤ b → b ≤ a → a ≡ b
same_best a b h g = omega (arith, h, g)

-- the side that is found is the first of the best
pub known_ends : (n : ℕ) (masses : List ℕ) (sides : List (List ℕ)) (k : Ranked) (some : List ℕ) (span : Span) → IsRankedOf n masses sides k → IsBest masses sides some → k.high ≡ balance masses some → IsFound k (Some span) →
    ((r : Range) → Contains (ranges_between k.ranges.borders.items) r → IsWanted k r → IsNotAfter k (Some span) r) → IsFirstBest masses sides (side_of k (range_of span))
known_ends n masses sides k some span known best high found first =
    let bs = k.ranges.borders.items in
    let m = count_of k in
    let ranked = known_ranked n masses sides k some known best high in
    let weighed = known_weighed n masses sides k known in
    let all = known_sides n masses sides k known in
    let side = side_of k (range_of span) in
    let own : balance masses side ≡ k.high = same_balance m masses k.ranges (range_of span) weighed (best_fits m bs (range_of span) k.ranges.within k.ranges.chained found.0) ∙ found.1 in
    record {
      best = record {
        member = subst (λ l. Contains l side) all (Contains-map (side_of k) (ranges_between bs) (range_of span) found.0);
        none_greater = subst (λ b. All (λ other. balance masses other ≤ b) sides) (sym (own ∙ high)) best.none_greater;
      };
      first = λ other is_best.
          let other_is = there_is n masses sides k other known is_best
          (high ∙ same_best (balance masses some) (balance masses other) (All-contains (λ o. balance masses o ≤ balance masses other) sides some is_best.none_greater best.member)
          (All-contains (λ o. balance masses o ≤ balance masses some) sides other best.none_greater is_best.member)) in
          subst (λ l. IsNoLater side l) other_is.is (first other_is.range other_is.member other_is.wanted);
    }
