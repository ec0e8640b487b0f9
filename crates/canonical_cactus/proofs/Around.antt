-- The first of the sides at the ranges that have another range within them: what is around is taken in while it is to be.
use Rattle.std.proofs.Common.{◌≡◌, ℕ, zero, suc, ◌+◌, ◌-◌, ◌≤◌, ◌<◌, ◌⊎◌, inl, inr, min, max, length, get_or, ap, ◌∙◌, sym, refl, subst, arith}
use Rattle.std.proofs.lemmas.Bool.{cases_eq, cases_lt}
use Rattle.std.proofs.lemmas.List.Elements.{All-get_or}
use Rattle.cut_definitions.specs.Cuts.{has}
use Rattle.rooted_cactus.specs.CutRanges.{Range, elements_at}
use Rattle.cut_definitions.specs.Graph.{IsVertex}
use Rattle.cactus_walk.proofs.Chains.{later, no_less}
use Rattle.cactus_walk.proofs.Stepping.{place_within}
use Rattle.cactus_walk.specs.declared.walk.shown.Span.{Span}
use Rattle.cactus_walk.specs.Weighing.{IsRangeOf, last_of, range_of}
use Rattle.rooted_cactus.specs.Borders.{range_between}
use Rattle.canonical_cactus.specs.Minima.{IsLeast}
use Rattle.cactus_walk.proofs.Between.{behind_there}
use Rattle.canonical_cactus.specs.FirstBest.{HasUpTo, IsBeyond, IsNoLater, IsRanked, IsTaken, IsWithin, NoneEmpty, count_of, place_at, range_at, side_between, side_of, vertex_at}
use Rattle.canonical_cactus.specs.declared.first_side.Ends.{Ends}
use Rattle.canonical_cactus.specs.declared.first_side.Ranked.{Ranked}
use Rattle.canonical_cactus.proofs.FirstBest.{no_later_both, no_later_itself}
use Rattle.canonical_cactus.proofs.Compared.{AreLeastBeyond, at_place, come_together, comes_behind, comes_first, inside_yes, one_inside, range, turned}

-- ---- borders of one block
-- places do not go down along it
pub place_no_less : (k : Ranked) (start a b : ℕ) → start ≤ a → a ≤ b → b ≤ last_of k.ranges start → place_at k a ≤ place_at k b
place_no_less k start a b sa ab within = no_less k.ranges.borders.items start a b k.ranges.chained sa ab within

-- each border after another is at a place within the list
pub place_fits : (k : Ranked) (start b : ℕ) → start < b → b ≤ last_of k.ranges start → place_at k b ≤ count_of k
place_fits k start b sb within =
    place_within (count_of k) k.ranges.borders.items b k.ranges.within (behind_there (count_of k) k.ranges.borders.items start b k.ranges.within sb within)

-- a range between two borders after another is a range of the list
pub range_fits : (k : Ranked) (start a b top : ℕ) → start ≤ a → a ≤ b → b ≤ top → start < top → top ≤ last_of k.ranges start → IsRangeOf (count_of k) (range_between k.ranges.borders.items a b)
range_fits k start a b top sa ab bt st within =
    let fits = place_fits k start top st within in
    let low = place_no_less k start b top (omega (arith, sa, ab)) bt within in
    (place_no_less k start a b sa ab (omega (arith, bt, within)), omega (arith, fits, low))

-- a border after another, in its block, is in the list of borders
pub border_in : (k : Ranked) (start b top : ℕ) → b ≤ top → start < top → top ≤ last_of k.ranges start → b < length k.ranges.borders.items
border_in k start b top bt st within =
    omega (arith, bt, behind_there (count_of k) k.ranges.borders.items start top k.ranges.within st within)

-- all have the same last one
pub same_last : (k : Ranked) (start a : ℕ) → start ≤ a → a ≤ last_of k.ranges start → last_of k.ranges a ≡ last_of k.ranges start
same_last k start a sa within =
    omega (arith, (later (a - start) k.ranges.borders.items start a k.ranges.chained (omega (arith, sa)) (omega (arith, sa, within))).1, sa, within)

-- ---- vertices
pub vertex_bound : (k : Ranked) (p : ℕ) → IsRanked k → p < count_of k → vertex_at k p < 4294967295
vertex_bound k p ranked l =
    let v : IsVertex (count_of k) (get_or k.ranges.order.items p 0) = All-get_or (IsVertex (count_of k)) k.ranges.order.items p 0 (omega (arith, l)) k.ranges.vertices in
    omega (arith, v.1, k.ranges.few)

-- a vertex is at one place
pub one_place : (k : Ranked) (p q : ℕ) → IsRanked k → p < count_of k → q < count_of k → vertex_at k p ≡ vertex_at k q → p ≡ q
one_place k p q ranked pl ql e =
    let at : Range = range p (p + 1) in
    let xs = k.ranges.order.items in
    one_inside p q (sym (at_place k q ranked ql at) ∙ ap (has (elements_at xs at)) (sym e) ∙ at_place k p ranked pl at ∙ inside_yes at p (omega arith) (omega arith))

-- ---- the least vertex of a range
record IsLeastOf (k : Ranked) (from to v : ℕ) : Type 0 where
  no_less : (p : ℕ) → from ≤ p → p < to → v ≤ vertex_at k p
  there : (v ≡ 4294967295) ⊎ ((p : ℕ) × (from ≤ p) × (p < to) × (vertex_at k p ≡ v))

least_of : (k : Ranked) (from to : ℕ) → IsRanked k → to ≤ count_of k → (v : ℕ) × IsLeastOf k from to v
least_of k from zero ranked fits = (4294967295, record { no_less = λ p a b. absurd (omega (arith, b)); there = inl refl })
least_of k from (suc to) ranked fits =
    let rest = least_of k from to ranked (omega (arith, fits)) in
    elim (cases_lt to from) [
      | inl before ↦ (
        rest.0,
        record {
          no_less = λ p a b. absurd (omega (arith, a, b, before));
          there = elim rest.1.there [
            | inl e ↦ inl e
            | inr w ↦ absurd (omega (arith, w.1, w.2, before))
          ];
        },
      )
      | inr behind ↦ elim (cases_lt (vertex_at k to) rest.0) [
        | inl less ↦ (
          vertex_at k to,
          record {
            no_less = λ p a b. elim (cases_eq p to) [
              | inl e ↦ (let same : vertex_at k p ≡ vertex_at k to = ap (vertex_at k) e in omega (arith, same))
              | inr ne ↦ omega (arith, rest.1.no_less p a (omega (arith, b, ne)), less)
            ];
            there = inr (to, behind, omega arith, refl);
          },
        )
        | inr more ↦ (
          rest.0,
          record {
            no_less = λ p a b. elim (cases_eq p to) [
              | inl e ↦ (let same : vertex_at k p ≡ vertex_at k to = ap (vertex_at k) e in omega (arith, same, more))
              | inr ne ↦ rest.1.no_less p a (omega (arith, b, ne))
            ];
            there = elim rest.1.there [
              | inl e ↦ inl e
              | inr w ↦ inr (w.0, w.1, omega (arith, w.2), w.3)
            ];
          },
        )
      ]
    ]

pub record IsLeastBeyond (k : Ranked) (r other : Range) (v : ℕ) : Type 0 where
  pub no_less : (p : ℕ) → IsBeyond r other p → v ≤ vertex_at k p
  pub there : (v ≡ 4294967295) ⊎ ((p : ℕ) × IsBeyond r other p × (vertex_at k p ≡ v))

-- there is a least vertex that only one of two ranges has
least_beyond : (k : Ranked) (r other : Range) → IsRanked k → r.to ≤ count_of k → (v : ℕ) × IsLeastBeyond k r other v
least_beyond k r other ranked fits =
    let one = least_of k r.from (min r.to other.from) ranked (omega (arith, fits)) in
    let two = least_of k (max r.from other.to) r.to ranked fits in
    let first : (p : ℕ) → r.from ≤ p → p < min r.to other.from → IsBeyond r other p = λ p a b. (a, omega (arith, b), inl (omega (arith, b))) in
    let second : (p : ℕ) → max r.from other.to ≤ p → p < r.to → IsBeyond r other p = λ p a b. (omega (arith, a), b, inr (omega (arith, a))) in
    let below : (v : ℕ) → v ≤ one.0 → v ≤ two.0 → (p : ℕ) → IsBeyond r other p → v ≤ vertex_at k p =
    λ v a b p beyond. elim beyond.2 [
      | inl before ↦ omega (arith, a, one.1.no_less p beyond.0 (omega (arith, before, beyond.1)))
      | inr behind ↦ omega (arith, b, two.1.no_less p (omega (arith, behind, beyond.0)) beyond.1)
    ] in
    elim (cases_lt one.0 two.0) [
      | inl less ↦ (
        one.0,
        record {
          no_less = below one.0 (omega arith) (omega (arith, less));
          there = elim one.1.there [
            | inl e ↦ inl e
            | inr w ↦ inr (w.0, first w.0 w.1 w.2, w.3)
          ];
        },
      )
      | inr more ↦ (
        two.0,
        record {
          no_less = below two.0 more (omega arith);
          there = elim two.1.there [
            | inl e ↦ inl e
            | inr w ↦ inr (w.0, second w.0 w.1 w.2, w.3)
          ];
        },
      )
    ]

pub same_beyond : (k : Ranked) (r other r2 other2 : Range) (v : ℕ) → r ≡ r2 → other ≡ other2 → IsLeastBeyond k r other v → IsLeastBeyond k r2 other2 v
same_beyond k r other r2 other2 v e f is = subst (λ x. IsLeastBeyond k x other2 v) e (subst (λ x. IsLeastBeyond k r x v) f is)

-- ---- what the tree of minima tells
-- a vertex up to a number is not in a range whose least one is greater
pub not_here : (k : Ranked) (a b vertex least q : ℕ) (span : Span) → IsRanked k → range_of span ≡ range_between k.ranges.borders.items a b → place_at k b ≤ count_of k → IsLeast k.least span.from span.to least → vertex < least → vertex_at k q ≤ vertex →
    (q < place_at k a) ⊎ (place_at k b ≤ q)
not_here k a b vertex least q span ranked is fits tells more up = elim (cases_lt q (place_at k a)) [
  | inl l ↦ inl l
  | inr from ↦ elim (cases_lt q (place_at k b)) [
    | inl to ↦ absurd (omega (arith, more, up, ranked.least_is q (omega (arith, to, fits)), tells.no_less q (omega (arith, from, ap (λ (r : Range). r.from) is)) (omega (arith, to, ap (λ (r : Range). r.to) is))))
    | inr l ↦ inr l
  ]
]

-- a vertex up to a number is in a range whose least one is not greater
pub has_here : (k : Ranked) (a b vertex least : ℕ) (span : Span) → IsRanked k → range_of span ≡ range_between k.ranges.borders.items a b → place_at k b ≤ count_of k → IsLeast k.least span.from span.to least → least ≤ vertex → vertex < 4294967295 → HasUpTo k a b vertex
has_here k a b vertex least span ranked is fits tells up bound = elim tells.there [
  | inl e ↦ absurd (omega (arith, e, up, bound))
  | inr w ↦
      let to : w.0 < place_at k b = omega (arith, w.2, ap (λ (r : Range). r.to) is) in
      (w.0, omega (arith, w.1, ap (λ (r : Range). r.from) is), to, omega (arith, ranked.least_is w.0 (omega (arith, to, fits)), w.3, up))
]

-- a border before whose place a place is, and one that is not after it
pub apart_borders : (k : Ranked) (a b q : ℕ) → place_at k a ≤ q → q < place_at k b → a ≡ b → ⊥
apart_borders k a b q from to e =
    let same : place_at k a ≡ place_at k b = ap (place_at k) e in
    omega (arith, from, to, same)

-- ---- two sides
-- the side with the least vertex that only one of the two has comes first if the other has a greater one
pub least_decides : (k : Ranked) (r other : Range) (q g : ℕ) → IsRanked k → r.to ≤ count_of k → other.to ≤ count_of k → IsBeyond r other q → ((p : ℕ) → IsBeyond r other p → vertex_at k q ≤ vertex_at k p) →
    ((p : ℕ) → IsBeyond other r p → vertex_at k q < vertex_at k p) → other.from ≤ g → g < other.to → vertex_at k q < vertex_at k g → IsNoLater (side_of k r) (side_of k other)
least_decides k r other q g ranked fits other_fits beyond own others from to greater =
    let rest = least_beyond k other r ranked other_fits in
    let are : AreLeastBeyond k r other (vertex_at k q) rest.0 = record { own_less = own; own_there = inr (q, beyond, refl); others_less = rest.1.no_less; others_there = rest.1.there } in
    elim rest.1.there [
      | inl e ↦ comes_first k r other (vertex_at k q) rest.0 g ranked fits other_fits (omega (arith, e)) (omega (arith, e, vertex_bound k q ranked (omega (arith, beyond.1, fits)))) are from to greater
      | inr w ↦
          comes_first k r other (vertex_at k q) rest.0 g ranked fits other_fits (omega (arith, w.2, vertex_bound k w.0 ranked (omega (arith, w.1.1, other_fits)))) (omega (arith, w.2, others w.0 w.1)) are from to greater
    ]

-- a side comes first if the other has all its vertices and further ones that are greater than these
pub begins_with : (k : Ranked) (r other : Range) → IsRanked k → r.to ≤ count_of k → other.to ≤ count_of k → ((p : ℕ) → IsBeyond r other p → ⊥) →
    ((p q : ℕ) → IsBeyond other r p → r.from ≤ q → q < r.to → vertex_at k q ≤ vertex_at k p) → IsNoLater (side_of k r) (side_of k other)
begins_with k r other ranked fits other_fits none greater =
    let rest = least_beyond k other r ranked other_fits in
    let are : AreLeastBeyond k r other 4294967295 rest.0 = record { own_less = λ p beyond. absurd (none p beyond); own_there = inl refl; others_less = rest.1.no_less; others_there = rest.1.there } in
    elim rest.1.there [
      | inl e ↦ come_together k r other 4294967295 rest.0 ranked fits other_fits (sym e) are
      | inr w ↦
          comes_behind k other r rest.0 4294967295 ranked other_fits (omega arith) (omega (arith, w.2, vertex_bound k w.0 ranked (omega (arith, w.1.1, other_fits)))) (turned k r other 4294967295 rest.0 are)
          (λ q a b. omega (arith, w.2, greater w.0 q w.1 a b))
    ]

-- a side without vertices comes first
pub empty_first : (k : Ranked) (r other : Range) → IsRanked k → r.to ≤ count_of k → other.to ≤ count_of k → r.from ≡ r.to → IsNoLater (side_of k r) (side_of k other)
empty_first k r other ranked fits other_fits none =
    begins_with k r other ranked fits other_fits (λ p beyond. omega (arith, beyond.0, beyond.1, none)) (λ p q beyond a b. absurd (omega (arith, a, b, none)))

-- ---- ranges around another one
-- a longer range that takes in the least vertex around comes first if a greater one is inside
pub step_first : (k : Ranked) (bounds old : Ends) (s e s2 e2 vertex q g : ℕ) → IsRanked k → IsWithin k bounds old → bounds.start ≤ s2 → s2 ≤ s → s ≤ old.start → old.end ≤ e → e ≤ e2 → e2 ≤ bounds.end →
    ((p : ℕ) → IsBeyond (range_at k bounds) (range_at k old) p → vertex ≤ vertex_at k p) → vertex_at k q ≤ vertex → IsBeyond (range_between k.ranges.borders.items s2 e2) (range_between k.ranges.borders.items s e) q →
    place_at k old.start ≤ g → g < place_at k old.end → vertex < vertex_at k g → IsNoLater (side_between k s2 e2) (side_between k s e)
step_first k bounds old s e s2 e2 vertex q g ranked is a b c d f h least up beyond from to greater =
    let bs = k.ranges.borders.items in
    let start = bounds.start in
    let end_in : e2 ≤ last_of k.ranges start = omega (arith, h, is.block) in
    let p0 : place_at k start ≤ place_at k s2 = place_no_less k start start s2 (omega arith) a (omega (arith, b, c, is.some, d, f, end_in)) in
    let p1 : place_at k s2 ≤ place_at k s = place_no_less k start s2 s a b (omega (arith, c, is.some, d, f, end_in)) in
    let p2 : place_at k s ≤ place_at k old.start = place_no_less k start s old.start (omega (arith, a, b)) c (omega (arith, is.some, d, f, end_in)) in
    let p3 : place_at k old.end ≤ place_at k e = place_no_less k start old.end e (omega (arith, is.start, is.some)) d (omega (arith, f, end_in)) in
    let p4 : place_at k e ≤ place_at k e2 = place_no_less k start e e2 (omega (arith, is.start, is.some, d)) f end_in in
    let p5 : place_at k e2 ≤ place_at k bounds.end = place_no_less k start e2 bounds.end (omega (arith, is.start, is.some, d, f)) h is.block in
    let n2 : place_at k e2 ≤ count_of k = place_fits k start e2 (omega (arith, is.start, is.some, d, f)) end_in in
    let r2 : Range = range_between bs s2 e2 in
    let r1 : Range = range_between bs s e in
    least_decides k r2 r1 q g ranked n2 (omega (arith, n2, p4)) beyond
    (λ p out. elim out.2 [
      | inl before ↦ omega (arith, up, least p (omega (arith, out.0, p0), omega (arith, out.1, p5), inl (omega (arith, before, p2))))
      | inr behind ↦ omega (arith, up, least p (omega (arith, out.0, p0), omega (arith, out.1, p5), inr (omega (arith, behind, p3))))
    ])
    (λ p out. elim out.2 [
      | inl before ↦ absurd (omega (arith, before, out.0, p1))
      | inr behind ↦ absurd (omega (arith, behind, out.1, p4))
    ])
    (omega (arith, from, p2)) (omega (arith, to, p3)) (omega (arith, up, greater))

-- each range around, joined with the one that is kept, has a side that does not come later
abbrev pub AreJoined : Ranked → Ends → Ends → Ends → Type 0
AreJoined k bounds inner ends =
    (s e : ℕ) → bounds.start ≤ s → s ≤ inner.start → inner.end ≤ e → e ≤ bounds.end → IsNoLater (side_between k (min s ends.start) (max e ends.end)) (side_between k s e)

pub joined_start : (k : Ranked) (bounds inner : Ends) → AreJoined k bounds inner inner
joined_start k bounds inner s e a b c d =
    let low : min s inner.start ≡ s = omega (arith, b) in
    let high : max e inner.end ≡ e = omega (arith, c) in
    subst (λ i. IsNoLater (side_between k i (max e inner.end)) (side_between k s e)) (sym low)
    (subst (λ i. IsNoLater (side_between k s i) (side_between k s e)) (sym high) (no_later_itself (side_between k s e)))

-- each range around, joined with the one that takes in the least vertex around, has a side that does not come later
pub joined_next : (k : Ranked) (bounds inner old new : Ends) (vertex g : ℕ) → IsRanked k → IsWithin k bounds old → IsWithin k bounds new → old.start ≤ inner.start → inner.end ≤ old.end → IsTaken k old new vertex →
    ((p : ℕ) → IsBeyond (range_at k bounds) (range_at k old) p → vertex ≤ vertex_at k p) → place_at k old.start ≤ g → g < place_at k old.end → vertex < vertex_at k g → AreJoined k bounds inner old → AreJoined k bounds inner new
joined_next k bounds inner old new vertex g ranked is will low high taken least from to greater joined s e a b c d = elim taken [
  | inl one ↦
      let w = one.1 in
      let same : max e new.end ≡ max e old.end = omega (arith, one.2) in
      elim (cases_lt new.start s) [
        | inl passed ↦
            let top = max e old.end in
            let bottom = min s old.start in
            let there : place_at k (new.start + 1) ≤ place_at k bottom = place_no_less k bounds.start (new.start + 1) bottom (omega (arith, will.start)) (omega (arith, passed, one.0)) (omega (arith, is.start, is.some, is.end, is.block)) in
            let up_to : place_at k bottom ≤ place_at k top = place_no_less k bounds.start bottom top (omega (arith, a, is.start)) (omega (arith, is.some)) (omega (arith, d, is.end, is.block)) in
            let first : IsNoLater (side_between k new.start top) (side_between k bottom top) =
            step_first k bounds old bottom top new.start top vertex w.0 g ranked is will.start (omega (arith, passed, one.0)) (omega arith) (omega arith) (omega arith) (omega (arith, d, is.end)) least w.3
            (w.1, omega (arith, w.2, there, up_to), inl (omega (arith, w.2, there))) from to greater in
            let min_is : min s new.start ≡ new.start = omega (arith, passed) in
            subst (λ i. IsNoLater (side_between k i (max e new.end)) (side_between k s e)) (sym min_is)
            (subst (λ i. IsNoLater (side_between k new.start i) (side_between k s e)) (sym same)
            (no_later_both (side_between k new.start top) (side_between k bottom top) (side_between k s e) first (joined s e a b c d)))
        | inr before ↦
            let kept : min s new.start ≡ min s old.start = omega (arith, before, one.0) in
            subst (λ i. IsNoLater (side_between k i (max e new.end)) (side_between k s e)) (sym kept)
            (subst (λ i. IsNoLater (side_between k (min s old.start) i) (side_between k s e)) (sym same) (joined s e a b c d))
      ]
  | inr two ↦
      let i = two.1 in
      let w = two.4 in
      let same : min s new.start ≡ min s old.start = omega (arith, two.0) in
      elim (cases_lt e new.end) [
        | inl passed ↦
            let top = max e old.end in
            let bottom = min s old.start in
            let there : place_at k top ≤ place_at k i = place_no_less k bounds.start top i (omega (arith, is.start, is.some)) (omega (arith, passed, two.2, two.3)) (omega (arith, two.2, will.end, is.block)) in
            let up_to : place_at k bottom ≤ place_at k top = place_no_less k bounds.start bottom top (omega (arith, a, is.start)) (omega (arith, is.some)) (omega (arith, d, is.end, is.block)) in
            let reach : place_at k (i + 1) ≡ place_at k new.end = ap (place_at k) (sym two.2) in
            let first : IsNoLater (side_between k bottom new.end) (side_between k bottom top) =
            step_first k bounds old bottom top bottom new.end vertex w.0 g ranked is (omega (arith, a, is.start)) (omega arith) (omega arith) (omega arith) (omega (arith, passed, two.2, two.3)) will.end least w.3
            (omega (arith, w.1, there, up_to), omega (arith, w.2, reach), inr (omega (arith, w.1, there))) from to greater in
            let max_is : max e new.end ≡ new.end = omega (arith, passed) in
            subst (λ j. IsNoLater (side_between k j (max e new.end)) (side_between k s e)) (sym same)
            (subst (λ j. IsNoLater (side_between k bottom j) (side_between k s e)) (sym max_is)
            (no_later_both (side_between k bottom new.end) (side_between k bottom top) (side_between k s e) first (joined s e a b c d)))
        | inr before ↦
            let kept : max e new.end ≡ max e old.end = omega (arith, before, two.2, two.3) in
            subst (λ j. IsNoLater (side_between k j (max e new.end)) (side_between k s e)) (sym same)
            (subst (λ j. IsNoLater (side_between k (min s old.start) j) (side_between k s e)) (sym kept) (joined s e a b c d))
      ]
]

-- if no greater vertex is inside than the least around, the range comes first itself
pub joined_end : (k : Ranked) (bounds inner ends : Ends) (vertex : ℕ) → IsRanked k → IsWithin k bounds ends → ((p : ℕ) → IsBeyond (range_at k bounds) (range_at k ends) p → vertex ≤ vertex_at k p) →
    ((q : ℕ) → place_at k ends.start ≤ q → q < place_at k ends.end → vertex_at k q ≤ vertex) → AreJoined k bounds inner ends →
    (s e : ℕ) → bounds.start ≤ s → s ≤ inner.start → inner.end ≤ e → e ≤ bounds.end → IsNoLater (side_between k ends.start ends.end) (side_between k s e)
joined_end k bounds inner ends vertex ranked is least none joined s e a b c d =
    let bs = k.ranges.borders.items in
    let bottom = min s ends.start in
    let top = max e ends.end in
    let end_in : top ≤ last_of k.ranges bounds.start = omega (arith, d, is.end, is.block) in
    let p0 : place_at k bounds.start ≤ place_at k bottom = place_no_less k bounds.start bounds.start bottom (omega arith) (omega (arith, a, is.start)) (omega (arith, is.some, end_in)) in
    let p1 : place_at k bottom ≤ place_at k ends.start = place_no_less k bounds.start bottom ends.start (omega (arith, a, is.start)) (omega arith) (omega (arith, is.some, end_in)) in
    let p2 : place_at k ends.end ≤ place_at k top = place_no_less k bounds.start ends.end top (omega (arith, is.start, is.some)) (omega arith) end_in in
    let p3 : place_at k top ≤ place_at k bounds.end = place_no_less k bounds.start top bounds.end (omega (arith, is.start, is.some)) (omega (arith, d, is.end)) is.block in
    let fits : place_at k top ≤ count_of k = place_fits k bounds.start top (omega (arith, is.start, is.some)) end_in in
    let r : Range = range_between bs ends.start ends.end in
    let other : Range = range_between bs bottom top in
    let first : IsNoLater (side_of k r) (side_of k other) = begins_with k r other ranked (omega (arith, fits, p2)) fits
    (λ p out. elim out.2 [
      | inl before ↦ absurd (omega (arith, before, out.0, p1))
      | inr behind ↦ absurd (omega (arith, behind, out.1, p2))
    ])
    (λ p q out from to.
    let more : vertex ≤ vertex_at k p = least p (omega (arith, out.0, p0), omega (arith, out.1, p3), out.2) in
    omega (arith, more, none q from to)) in
    no_later_both (side_of k r) (side_of k other) (side_between k s e) first (joined s e a b c d)

-- ---- the range with the least vertex of all
-- the range with the least vertex of all comes before each range without that vertex
pub least_first : (k : Ranked) (bounds : Ends) (at vertex s e : ℕ) → IsRanked k → NoneEmpty k → bounds.end ≤ last_of k.ranges bounds.start → bounds.start ≤ at → at < bounds.end →
    ((p : ℕ) → place_at k bounds.start ≤ p → p < place_at k bounds.end → vertex ≤ vertex_at k p) → HasUpTo k at (at + 1) vertex → bounds.start ≤ s → s < e → e ≤ bounds.end → (e ≤ at) ⊎ (at + 1 ≤ s) →
    IsNoLater (side_between k at (at + 1)) (side_between k s e)
least_first k bounds at vertex s e ranked some block low high least w a b c apart =
    let bs = k.ranges.borders.items in
    let first = bounds.start in
    let s_last : last_of k.ranges s ≡ last_of k.ranges first = same_last k first s a (omega (arith, b, c, block)) in
    let g = place_at k s in
    let g_in : g < place_at k (s + 1) = some s (omega (arith, s_last, b, c, block)) in
    let p0 : place_at k first ≤ g = place_no_less k first first s (omega arith) a (omega (arith, b, c, block)) in
    let p1 : place_at k (s + 1) ≤ place_at k e = place_no_less k first (s + 1) e (omega (arith, a)) (omega (arith, b)) (omega (arith, c, block)) in
    let p2 : place_at k e ≤ place_at k bounds.end = place_no_less k first e bounds.end (omega (arith, a, b)) c block in
    let q0 : place_at k first ≤ place_at k at = place_no_less k first first at (omega arith) low (omega (arith, high, block)) in
    let q1 : place_at k (at + 1) ≤ place_at k bounds.end = place_no_less k first (at + 1) bounds.end (omega (arith, low)) (omega (arith, high)) block in
    let fits : place_at k bounds.end ≤ count_of k = place_fits k first bounds.end (omega (arith, low, high)) block in
    let out : (w.0 < g) ⊎ (place_at k e ≤ w.0) = elim apart [
      | inl before ↦ inr (let m : place_at k e ≤ place_at k at = place_no_less k first e at (omega (arith, a, b)) before (omega (arith, high, block)) in omega (arith, m, w.1))
      | inr behind ↦ inl (let m : place_at k (at + 1) ≤ g = place_no_less k first (at + 1) s (omega (arith, low)) behind (omega (arith, b, c, block)) in omega (arith, m, w.2))
    ] in
    let less : (p : ℕ) → g ≤ p → p < place_at k e → vertex_at k w.0 < vertex_at k p = λ p from to.
    let differ : vertex_at k w.0 ≡ vertex_at k p → ⊥ = λ same.
    let one : w.0 ≡ p = one_place k w.0 p ranked (omega (arith, w.2, q1, fits)) (omega (arith, to, p2, fits)) same in
    elim out [
      | inl l ↦ omega (arith, one, l, from)
      | inr l ↦ omega (arith, one, l, to)
    ] in
    let no_less : vertex ≤ vertex_at k p = least p (omega (arith, p0, from)) (omega (arith, to, p2)) in
    omega (arith, no_less, w.3, differ) in
    least_decides k (range_between bs at (at + 1)) (range_between bs s e) w.0 g ranked (omega (arith, q1, fits)) (omega (arith, p2, fits)) (w.1, w.2, out)
    (λ p beyond. omega (arith, w.3, least p (omega (arith, beyond.0, q0)) (omega (arith, beyond.1, q1))))
    (λ p beyond. less p beyond.0 beyond.1) (omega arith) (omega (arith, g_in, p1)) (less g (omega arith) (omega (arith, g_in, p1)))
