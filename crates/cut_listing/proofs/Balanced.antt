-- The sides of a least balance are those at the ranges of a least balance.
use Rattle.std.proofs.Common.{◌≡◌, ℕ, zero, suc, ◌+◌, ◌≤◌, ◌<◌, ◌^◌, Bool, true, false, inl, inr, List, [], ◌∷◌, length, map, take, drop, ap, ◌∙◌, sym, refl, subst, arith}
use Rattle.std.specs.Prelude.{◌↔◌, nat_le}
use Rattle.std.specs.List.{All, Contains, concat, filter}
use Rattle.std.proofs.lemmas.Bool.{cases_Bool}
use Rattle.std.proofs.lemmas.List.{length-map}
use Rattle.std.proofs.lemmas.List.Elements.{All-append, All-cons, All-drop, All-head, All-map, All-nil, All-tail}
use Rattle.cut_definitions.specs.Cuts.{has}
use Rattle.rooted_cactus.specs.Borders.{border_at, ranges_to}
use Rattle.rooted_cactus.specs.CutRanges.{Range}
use Rattle.cut_definitions.specs.Members.{AreDifferent}
use Rattle.rooted_cactus.specs.Entered.{entered}
use Rattle.rooted_cactus.specs.Normal.{is_normal}
use Rattle.rooted_cactus.specs.Numbers.{number}
use Rattle.rooted_cactus.specs.Places.{AreOnce, side_at}
use Rattle.cactus_walk.specs.Repeats.{passed_over, ranges_kept}
use Rattle.rooted_cactus.specs.Rooted.{IsCactus, Rooted, sides_of}
use Rattle.cactus_walk.specs.Walking.{AreBorders, AreChained}
use Rattle.cactus_walk.specs.Weighing.{AreSumsOf, IsRangeOf, IsWeighed}
use Rattle.cactus_walk.specs.declared.walk.ranges.CutRanges.{CutRanges}
use Rattle.rooted_cactus.specs.declared.tree.border.Border.{Border}
use Rattle.rooted_cactus.proofs.Bounds.{number_small}
use Rattle.rooted_cactus.proofs.Distinct.{number_of_sides}
use Rattle.rooted_cactus.proofs.Once.{each_there}
use Rattle.cactus_walk.proofs.Weighing.{same_balance}
use Rattle.cut_listing.specs.Asks.{is_balanced}
use Rattle.cut_listing.specs.Bands.{is_heavy}
use Rattle.cut_listing.specs.Listings.{different}
use Rattle.cut_listing.proofs.Counted.{number_different}
use Rattle.cut_listing.proofs.Listed.{all_different, same_different}
use Rattle.cut_listing.proofs.Passes.{asked_differ, given_asked}

-- ---- the ranges between borders
-- the borders that follow one of their block
above : (long low f : ℕ) (bs : List Border) → AreBorders long bs → AreChained bs → f ≤ length bs → (0 < f → (low ≤ (border_at bs 0).place) × (f ≡ (border_at bs 0).following + 1)) →
    All (λ (b : Border). (low ≤ b.place) × (b.place ≤ long)) (take f bs)
above long low zero bs h c w first = All-nil (λ (b : Border). (low ≤ b.place) × (b.place ≤ long))
above long low (suc f) [] h c w first = absurd (omega (arith, w))
above long low (suc f) (b ∷ bs) h c w first =
    let here = first (omega arith) in
    All-cons (λ (b : Border). (low ≤ b.place) × (b.place ≤ long)) b (take f bs) (here.0, h.0)
    (above long low f bs h.2 c.1 (omega (arith, w)) (λ some. let next = c.0 (omega (arith, here.1, some)) in (omega (arith, here.0, next.0), omega (arith, here.1, next.1))))

kept_fit : (long : ℕ) (bs : List Border) (ms : List Bool) → AreBorders long bs → AreChained bs → All (IsRangeOf long) (ranges_kept bs ms)
kept_fit long [] ms h c = All-nil (IsRangeOf long)
kept_fit long (b ∷ bs) [] h c = All-nil (IsRangeOf long)
kept_fit long (b ∷ bs) (m ∷ ms) h c =
    let ends = drop (passed_over m) (take b.following bs) in
    All-append (IsRangeOf long) (ranges_to b.place ends) (ranges_kept bs ms)
    (All-map (IsRangeOf long) (λ (e : Border). record { from = b.place; to = e.place }) ends
    (All-drop (λ (e : Border). (b.place ≤ e.place) × (e.place ≤ long)) (passed_over m) (take b.following bs) (above long b.place b.following bs h.2 c.1 h.1 c.0)))
    (kept_fit long bs ms h.2 c.1)

-- two tests that agree leave the same
filter_same : (p : List ℕ → Bool) (q : Range → Bool) (g : Range → List ℕ) (P : Range → Type 0) (rs : List Range) → All P rs → ((r : Range) → P r → p (g r) ≡ q r) → filter p (map g rs) ≡ map g (filter q rs)
filter_same p q g P [] all same = refl
filter_same p q g P (r ∷ rs) all same =
    let here = same r (All-head P r rs all) in
    let rest = filter_same p q g P rs (All-tail P r rs all) same in
    elim (cases_Bool (q r)) [
      | inl is ↦ (let both : p (g r) ≡ true = here ∙ is in rw both (ap (λ l. g r ∷ l) rest ∙ ap (map g) (sym (kept_head q r rs is))))
      | inr out ↦ (let both = here ∙ out in rw both (rest ∙ ap (map g) (sym (left_head q r rs out))))
    ]
  where
    kept_head : (q : Range → Bool) (r : Range) (rs : List Range) → q r ≡ true → filter q (r ∷ rs) ≡ r ∷ filter q rs
    kept_head q r rs is = rw is refl

    left_head : (q : Range → Bool) (r : Range) (rs : List Range) → q r ≡ false → filter q (r ∷ rs) ≡ filter q rs
    left_head q r rs out = rw out refl

-- ---- the sides of a least balance
-- what is known of a cactus, its cuts as ranges, and which of these a walk leaves out
pub record AreWeighed (c : Rooted) (masses : List ℕ) (r : CutRanges) (ms : List Bool) : Type 0 where
  pub cactus : IsCactus c.vertices c.root
  pub normal : is_normal c.root ≡ true
  pub weighed : IsWeighed c.vertices masses r
  pub sides : (side : List ℕ) → Contains (map (side_at c.vertices r.order.items) (ranges_kept r.borders.items ms)) side ↔ Contains (sides_of c) side
  pub different : AreDifferent (map (side_at c.vertices r.order.items) (ranges_kept r.borders.items ms))

-- the ranges were made of an order and of borders
pub weighed : (c : Rooted) (masses order : List ℕ) (bs : List Border) (r : CutRanges) (ms : List Bool) → IsCactus c.vertices c.root → is_normal c.root ≡ true → length masses ≡ c.vertices →
    order ≡ concat (entered c.root) → length order ≡ c.vertices → AreOnce c.vertices order → ((side : List ℕ) → Contains (map (side_at c.vertices order) (ranges_kept bs ms)) side ↔ Contains (sides_of c) side) →
    AreDifferent (map (side_at c.vertices order) (ranges_kept bs ms)) → r.order.items ≡ order → r.borders.items ≡ bs → AreSumsOf masses r → AreWeighed c masses r ms
weighed c masses order bs r ms cactus normal many entered_is long once sides differ same_order same_bs sums =
    let same : map (side_at c.vertices r.order.items) (ranges_kept r.borders.items ms) ≡ map (side_at c.vertices order) (ranges_kept bs ms) =
    ap (λ o. map (side_at c.vertices o) (ranges_kept r.borders.items ms)) same_order ∙ ap (λ b. map (side_at c.vertices order) (ranges_kept b ms)) same_bs in
    record {
      cactus = cactus;
      normal = normal;
      weighed = record {
        counted = many;
        long = ap length same_order ∙ long;
        once = subst (AreOnce c.vertices) (sym same_order) once;
        every = λ v l m. ap (λ xs. has xs v) (same_order ∙ entered_is) ∙ each_there c.vertices c.root cactus v l m;
        sums = sums;
      };
      sides = λ side. subst (λ l. Contains l side ↔ Contains (sides_of c) side) (sym same) (sides side);
      different = subst AreDifferent (sym same) differ;
    }

-- a side at a range has the least balance if the range has
same_answer : (c : Rooted) (masses : List ℕ) (r : CutRanges) (ms : List Bool) (least : ℕ) → AreWeighed c masses r ms → (q : Range) → IsRangeOf c.vertices q → is_balanced masses least (side_at c.vertices r.order.items q) ≡ is_heavy r least q
same_answer c masses r ms least w q fits = ap (nat_le least) (same_balance c.vertices masses r q w.weighed fits)

-- the sides of the least balance, of those that a walk gives
pub balanced_given : (c : Rooted) (masses : List ℕ) (r : CutRanges) (ms : List Bool) (least : ℕ) → AreWeighed c masses r ms →
    filter (is_balanced masses least) (map (side_at c.vertices r.order.items) (ranges_kept r.borders.items ms)) ≡ map (side_at c.vertices r.order.items) (filter (is_heavy r least) (ranges_kept r.borders.items ms))
balanced_given c masses r ms least w =
    filter_same (is_balanced masses least) (is_heavy r least) (side_at c.vertices r.order.items) (IsRangeOf c.vertices) (ranges_kept r.borders.items ms)
    (subst (λ n. All (IsRangeOf n) (ranges_kept r.borders.items ms)) w.weighed.long (kept_fit (length r.order.items) r.borders.items ms r.within r.chained)) (same_answer c masses r ms least w)

-- the sides at the heavy ranges are different
pub balanced_differ : (c : Rooted) (masses : List ℕ) (r : CutRanges) (ms : List Bool) (least : ℕ) → AreWeighed c masses r ms → AreDifferent (map (side_at c.vertices r.order.items) (filter (is_heavy r least) (ranges_kept r.borders.items ms)))
balanced_differ c masses r ms least w =
    subst AreDifferent (balanced_given c masses r ms least w) (asked_differ (is_balanced masses least) (map (side_at c.vertices r.order.items) (ranges_kept r.borders.items ms)) w.different)

-- the sides at the heavy ranges are all balanced sides
pub balanced_all : (c : Rooted) (masses : List ℕ) (r : CutRanges) (ms : List Bool) (least : ℕ) → AreWeighed c masses r ms →
    different (map (side_at c.vertices r.order.items) (filter (is_heavy r least) (ranges_kept r.borders.items ms))) ≡ different (filter (is_balanced masses least) (sides_of c))
balanced_all c masses r ms least w =
    ap different (sym (balanced_given c masses r ms least w)) ∙ given_asked (is_balanced masses least) (map (side_at c.vertices r.order.items) (ranges_kept r.borders.items ms)) (sides_of c) w.sides

pub balanced_number : (c : Rooted) (masses : List ℕ) (r : CutRanges) (ms : List Bool) (least : ℕ) → AreWeighed c masses r ms →
    length (filter (is_heavy r least) (ranges_kept r.borders.items ms)) ≡ length (different (filter (is_balanced masses least) (sides_of c)))
balanced_number c masses r ms least w =
    let heavy = filter (is_heavy r least) (ranges_kept r.borders.items ms) in
    let side = side_at c.vertices r.order.items in
    sym (length-map heavy side) ∙ sym (all_different (map side heavy) (balanced_differ c masses r ms least w)) ∙ ap length (balanced_all c masses r ms least w)

-- how many balanced sides are different, counted by marks that were lent
pub counted_lent : (c : Rooted) (masses : List ℕ) (r : CutRanges) (ms : List Bool) (least : ℕ) → AreWeighed c masses r ms → (lent : List Bool) (cuts : ℕ) → lent ≡ ms →
    cuts ≡ length (filter (is_heavy r least) (ranges_kept r.borders.items lent)) → cuts ≡ length (different (filter (is_balanced masses least) (sides_of c)))
counted_lent c masses r ms least w lent cuts same is = is ∙ ap (λ l. length (filter (is_heavy r least) (ranges_kept r.borders.items l))) same ∙ balanced_number c masses r ms least w

-- the sides that are gathered by marks that were lent are different, and all that are balanced
pub gathered_lent : (c : Rooted) (masses : List ℕ) (r : CutRanges) (ms : List Bool) (least : ℕ) → AreWeighed c masses r ms → (lent : List Bool) (sides : List (List ℕ)) → lent ≡ ms →
    sides ≡ map (side_at (length r.order.items) r.order.items) (filter (is_heavy r least) (ranges_kept r.borders.items lent)) → AreDifferent sides × (different sides ≡ different (filter (is_balanced masses least) (sides_of c)))
gathered_lent c masses r ms least w lent sides same is =
    let gathered : sides ≡ map (side_at c.vertices r.order.items) (filter (is_heavy r least) (ranges_kept r.borders.items ms)) =
    is ∙ ap (λ k. map (side_at k r.order.items) (filter (is_heavy r least) (ranges_kept r.borders.items lent))) w.weighed.long
    ∙ ap (λ l. map (side_at c.vertices r.order.items) (filter (is_heavy r least) (ranges_kept r.borders.items l))) same in
    (subst AreDifferent (sym gathered) (balanced_differ c masses r ms least w), ap different gathered ∙ balanced_all c masses r ms least w)

-- a walk gives few sides
pub kept_small : (c : Rooted) (masses : List ℕ) (r : CutRanges) (ms : List Bool) → AreWeighed c masses r ms → length (ranges_kept r.borders.items ms) < 2 ^ 62
kept_small c masses r ms w =
    let given = map (side_at c.vertices r.order.items) (ranges_kept r.borders.items ms) in
    let sides = sides_of c in
    let same : length (different given) ≡ length (different sides) = ap length (same_different given sides (λ s. (w.sides s).0) (λ s. (w.sides s).1)) in
    let all : length (different sides) ≡ number c.root = number_different (number c.root) sides (number_of_sides c.vertices c.root w.cactus w.normal) in
    let small : number c.root < 2 ^ 62 = number_small c.vertices c.root w.cactus w.normal (omega (arith, r.few, w.weighed.long)) in
    omega (arith, same, all, small, all_different given w.different, length-map (ranges_kept r.borders.items ms) (side_at c.vertices r.order.items))
