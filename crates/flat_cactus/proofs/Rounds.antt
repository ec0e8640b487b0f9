-- Two edges of a cycle cut off the trees between them.
use Rattle.std.proofs.Common.{◌≡◌, ℕ, ◌+◌, ◌≤◌, ◌<◌, Bool, true, false, List, [], ◌∷◌, ◌++◌, ◌⊎◌, inl, inr, map, refl, sym, ◌∙◌, subst, arith}
use Rattle.std.specs.List.{AllZip}
use Rattle.std.proofs.lemmas.Bool.{cases_lt}
use Rattle.std.proofs.lemmas.List.Elements.{Contains-append_cases, Contains-append_left, Contains-append_right}
use Rattle.cut_definitions.proofs.Lists.{Contains-map, Contains-from_map}
use Rattle.rooted_cactus.specs.CutRanges.{Range, ranges_from, interval_ranges}
use Rattle.flat_cactus.specs.Flattened.{Joins, TreeJoins, trees_size, roots_from, trees_from, cycle_before}
use Rattle.flat_cactus.specs.FlatCuts.{IsClosed, edges_along, without_one, without_two, without_two_of_one}
use Rattle.flat_cactus.proofs.Closing.{Edges, around, Splits, split_around, split_middle, IsEach, way_ends, way_reached, way_closed}
use Rattle.flat_cactus.proofs.Pieces.{inside, within_range, before_range, behind_range, edges_of, IsLinked, IsCutOff, IsPiece}
use Rattle.flat_cactus.proofs.Hanging.{range, sizes, zip_map, zip_weaker, zip_append, zip_first, zip_second, AreLinked, no_trees, more_trees, roots_each, grove_linked}

-- what joins the nodes of the trees
abbrev grove : ℕ → List TreeJoins → Edges
grove k ts = edges_of (trees_from k ts)

split_grove : (t : TreeJoins) (ts : List TreeJoins) (k : ℕ) → Splits (grove k (t ∷ ts)) (edges_of (t.joins k)) (grove (k + t.size) ts)
split_grove t ts k = split_around (t.joins k).bridges (trees_from (k + t.size) ts).bridges (t.joins k).cycles (trees_from (k + t.size) ts).cycles

-- the way back to the node `up` is left without one edge: what is before that edge, from the number `from` on, is cut off
record IsTail (up from k size : ℕ) (trees : Edges) (r : Range) (left : Edges) : Type 0 where
  begins : r.from ≡ from
  low : k ≤ r.to
  high : r.to ≤ k + size
  uncrossed : IsClosed left (inside r)
  trees_uncrossed : IsClosed trees (inside r)
  reached : (set : ℕ → Bool) → IsClosed left set → IsClosed trees set → set up ≡ true → (i : ℕ) → r.to ≤ i → i < k + size → set i ≡ true

tail_cuts : (ts : List TreeJoins) → AreLinked ts → (up from at k : ℕ) → up < from → from ≤ at → at < k →
    AllZip (IsTail up from k (trees_size ts) (grove k ts)) (ranges_from from k (sizes ts)) (without_one (edges_along up at (roots_from k ts)))
tail_cuts ts no_trees up from at k a b c = (
  record {
    begins = refl;
    low = omega arith;
    high = omega arith;
    uncrossed = tt;
    trees_uncrossed = tt;
    reached = λ set d e f i p q. absurd (omega (arith, p, q));
  },
  tt,
)
tail_cuts ts (more_trees t us g gs) up from at k a b c =
    let r = range from k in
    let next = k + t.size in
    let way = edges_along up k (roots_from next us) in
    let all : AreLinked (t ∷ us) = more_trees t us g gs in
    let whole : IsLinked (roots_from k (t ∷ us)) k (trees_size (t ∷ us)) (grove k (t ∷ us)) = grove_linked (t ∷ us) all k in
    let outside : IsEach (inside r) false (roots_from k (t ∷ us)) = roots_each (t ∷ us) all (inside r) false k (λ i p q. behind_range r i p) in
    let here : IsTail up from k (trees_size (t ∷ us)) (grove k (t ∷ us)) r way = record {
      begins = refl;
      low = omega arith;
      high = omega arith;
      uncrossed = way_closed up k (roots_from next us) (inside r) false (before_range r up a) outside.0 outside.1;
      trees_uncrossed = whole.closed (inside r) false outside (λ i p q. behind_range r i p);
      reached = λ set d e f i p q. whole.reached set e (way_ends up k (roots_from next us) set d ∙ f, way_reached up k (roots_from next us) set d f) i p q;
    } in
    let later : AllZip (IsTail up from next (trees_size us) (grove next us)) (ranges_from from next (sizes us)) (without_one way) =
    tail_cuts us gs up from k next a (omega (arith, b, c)) (omega (arith, g.some)) in (
      here,
      zip_map (IsTail up from next (trees_size us) (grove next us)) (IsTail up from k (trees_size (t ∷ us)) (grove k (t ∷ us))) (λ l. (at, k) ∷ l)
          (λ q l h. record {
            begins = h.begins;
            low = omega (arith, h.low);
            high = omega (arith, h.high);
            uncrossed = (within_range q at (omega (arith, h.begins, b)) (omega (arith, h.low, c)) ∙ sym (within_range q k (omega (arith, h.begins, b, c)) (omega (arith, h.low, g.some))), h.uncrossed);
            trees_uncrossed = (split_grove t us k).both (inside q)
                ((g.linked k).closed (inside q) true (within_range q k (omega (arith, h.begins, b, c)) (omega (arith, h.low, g.some)), tt) (λ i x y. within_range q i (omega (arith, h.begins, b, c, x)) (omega (arith, h.low, y))))
                h.trees_uncrossed;
            reached = λ set d e f i x y. h.reached set d.1 ((split_grove t us k).second set e) f i x (omega (arith, y));
          })
          (ranges_from from next (sizes us)) (without_one way) later,
    )

-- the way from the node `at` to the node `up` is left without two edges: what is between these is cut off
record IsMiddle (up at k size : ℕ) (trees : Edges) (r : Range) (left : Edges) : Type 0 where
  low : k ≤ r.from
  some : r.from < r.to
  high : r.to ≤ k + size
  uncrossed : IsClosed left (inside r)
  trees_uncrossed : IsClosed trees (inside r)
  reached : (set : ℕ → Bool) → IsClosed left set → IsClosed trees set → set up ≡ true → set at ≡ true → (i : ℕ) → k ≤ i → i < k + size → (i < r.from) ⊎ (r.to ≤ i) → set i ≡ true

middle_cuts : (ts : List TreeJoins) → AreLinked ts → (up at k : ℕ) → up < k → at < k →
    AllZip (IsMiddle up at k (trees_size ts) (grove k ts)) (interval_ranges (sizes ts) k) (without_two (edges_along up at (roots_from k ts)))
middle_cuts ts no_trees up at k a b = tt
middle_cuts ts (more_trees t us g gs) up at k a b =
    let next = k + t.size in
    let way = edges_along up k (roots_from next us) in
    let Q = IsMiddle up at k (trees_size (t ∷ us)) (grove k (t ∷ us)) in
    let first : AllZip Q (ranges_from k next (sizes us)) (without_one way) =
    zip_weaker (IsTail up k next (trees_size us) (grove next us)) Q
    (λ r l h. record {
      low = omega (arith, h.begins);
      some = omega (arith, h.begins, h.low, g.some);
      high = omega (arith, h.high);
      uncrossed = h.uncrossed;
      trees_uncrossed = (split_grove t us k).both (inside r)
          ((g.linked k).closed (inside r) true (within_range r k (omega (arith, h.begins)) (omega (arith, h.low, g.some)), tt) (λ i x y. within_range r i (omega (arith, h.begins, x)) (omega (arith, h.low, y))))
          h.trees_uncrossed;
      reached = λ set d e f j i x y o. elim o [ inl u ↦ absurd (omega (arith, u, h.begins, x)) | inr u ↦ h.reached set d ((split_grove t us k).second set e) f i u (omega (arith, y)) ];
    })
    (ranges_from k next (sizes us)) (without_one way) (tail_cuts us gs up k k next a (omega arith) (omega (arith, g.some))) in
    let later : AllZip Q (interval_ranges (sizes us) next) (map (λ l. (at, k) ∷ l) (without_two way)) =
    zip_map (IsMiddle up k next (trees_size us) (grove next us)) Q (λ l. (at, k) ∷ l)
    (λ r l h. record {
      low = omega (arith, h.low);
      some = h.some;
      high = omega (arith, h.high);
      uncrossed = (before_range r at (omega (arith, b, h.low)) ∙ sym (before_range r k (omega (arith, h.low, g.some))), h.uncrossed);
      trees_uncrossed = (split_grove t us k).both (inside r)
          ((g.linked k).closed (inside r) false (before_range r k (omega (arith, h.low, g.some)), tt) (λ i x y. before_range r i (omega (arith, h.low, y))))
          h.trees_uncrossed;
      reached = λ set d e f j i x y o.
          let root : set k ≡ true = sym d.0 ∙ j in
          elim (cases_lt i next) [
            | inl u ↦ (g.linked k).reached set ((split_grove t us k).first set e) (root, tt) i x u
            | inr u ↦ h.reached set d.1 ((split_grove t us k).second set e) f root i u (omega (arith, y)) o
          ];
    })
    (interval_ranges (sizes us) next) (without_two way) (middle_cuts us gs up k next (omega (arith, a)) (omega (arith, g.some))) in
    zip_append Q (ranges_from k next (sizes us)) (interval_ranges (sizes us) next) (without_one way) (map (λ l. (at, k) ∷ l) (without_two way)) first later

-- ---- a cycle
module _ (up first : ℕ) (ts : List TreeJoins) (above : up < first) (all : AreLinked ts) where
  abbrev round : Edges
  round = edges_along up up (roots_from first ts)

  abbrev inner : Joins
  inner = trees_from first ts

  cut_inside : (r : Range) (whole left : Edges) → Splits whole left round → IsCutOff (roots_from first ts) first (trees_size ts) r left → IsCutOff (up ∷ []) first (trees_size ts) r whole
  cut_inside r whole left s c =
      let out : inside r up ≡ false = before_range r up (omega (arith, c.low, above)) in
      record {
        low = c.low;
        some = c.some;
        high = c.high;
        seeds_outside = (out, tt);
        uncrossed = s.both (inside r) c.uncrossed (way_closed up up (roots_from first ts) (inside r) false out out c.seeds_outside);
        reached = λ set k e i p q o. c.reached set (s.first set k) (way_reached up up (roots_from first ts) set (s.second set k) e.0) i p q o;
      }

  abbrev IsRoundCut : Range → Edges → Type 0
  IsRoundCut r l = IsCutOff (up ∷ []) first (trees_size ts) r (inner.bridges ++ (l ++ around inner.cycles))

  round_cuts : AllZip IsRoundCut (interval_ranges (sizes ts) first) (without_two round)
  round_cuts =
      zip_weaker (IsMiddle up up first (trees_size ts) (grove first ts)) IsRoundCut
      (λ r l h. let s = split_middle inner.bridges l (around inner.cycles) in
      record {
        low = h.low;
        some = h.some;
        high = h.high;
        seeds_outside = (before_range r up (omega (arith, above, h.low)), tt);
        uncrossed = s.both (inside r) h.trees_uncrossed h.uncrossed;
        reached = λ set k e i p q o. h.reached set (s.second set k) (s.first set k) e.0 e.0 i p q o;
      })
      (interval_ranges (sizes ts) first) (without_two round) (middle_cuts ts all up up first above above)

  pub cycle_piece : (rs : List Range) → IsPiece (roots_from first ts) first (trees_size ts) rs inner →
      IsPiece (up ∷ []) first (trees_size ts) (interval_ranges (sizes ts) first ++ rs) (cycle_before (up ∷ roots_from first ts) inner)
  cycle_piece rs g =
      let own = interval_ranges (sizes ts) first in
      let B = inner.bridges in
      let C = around inner.cycles in
      let twos = map (λ l. l ++ C) (without_two round) in
      let others = map (λ l. round ++ l) (without_two_of_one inner.cycles) in
      let s = split_middle B round C in
      record {
        linked = record {
          closed = λ set b e k. let each : IsEach set b (roots_from first ts) = roots_each ts all set b first k in s.both set (g.linked.closed set b each k) (way_closed up up (roots_from first ts) set b e.0 e.0 each);
          reached = λ set c e i p q. g.linked.reached set (s.first set c) (way_reached up up (roots_from first ts) set (s.second set c) e.0) i p q;
        };
        each_range = λ r h. elim (Contains-append_cases own rs r h) [
          | inl x ↦
              let y = zip_first IsRoundCut own (without_two round) r round_cuts x in
              inr (y.0 ++ C, Contains-append_left twos others (y.0 ++ C) (Contains-map (λ l. l ++ C) (without_two round) y.0 y.1), y.2)
          | inr x ↦ elim (g.each_range r x) [
            | inl y ↦ inl (y.0, y.1, cut_inside r _ _ (split_middle y.0 round C) y.2)
            | inr y ↦ inr (round ++ y.0, Contains-append_right twos others (round ++ y.0) (Contains-map (λ l. round ++ l) (without_two_of_one inner.cycles) y.0 y.1), cut_inside r _ _ (split_middle B round y.0) y.2)
          ]
        ];
        each_bridge = λ l h. let z = g.each_bridge l h in (z.0, Contains-append_right own rs z.0 z.1, cut_inside z.0 _ _ (split_middle l round C) z.2);
        each_cycle = λ l h. elim (Contains-append_cases twos others l h) [
          | inl x ↦
              let y = Contains-from_map (λ k. k ++ C) (without_two round) l x in
              let z = zip_second IsRoundCut own (without_two round) y.0 round_cuts y.1 in
              (z.0, Contains-append_left own rs z.0 z.1, subst (λ w. IsCutOff (up ∷ []) first (trees_size ts) z.0 (B ++ w)) y.2 z.2)
          | inr x ↦
              let y = Contains-from_map (λ k. round ++ k) (without_two_of_one inner.cycles) l x in
              let z = g.each_cycle y.0 y.1 in
              (z.0, Contains-append_right own rs z.0 z.1, subst (λ w. IsCutOff (up ∷ []) first (trees_size ts) z.0 (B ++ w)) y.2 (cut_inside z.0 _ _ (split_middle B round y.0) z.2))
        ];
      }
