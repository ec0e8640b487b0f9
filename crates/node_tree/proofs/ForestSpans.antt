-- The intervals of sets that are numbered downwards.
use Rattle.std.proofs.Common.{◌≡◌, ℕ, suc, ◌+◌, ◌-◌, ◌<◌, ◌≤◌, ⊎_elim, true, List, [], ◌∷◌, ◌++◌, length, sym, ◌∙◌, subst, arith}
use Rattle.std.specs.Prelude.{⊤}
use Rattle.std.specs.List.{Contains}
use Rattle.std.proofs.lemmas.Bool.{cases_eq, cases_lt, or_left, or_right, or_cases}
use Rattle.std.proofs.lemmas.List.Elements.{Contains-append_cases, Contains-append_left, Contains-append_right}
use Rattle.cut_definitions.specs.Weight.{VertexSet, either}
use Rattle.cut_definitions.specs.Chain.{SameOn}
use Rattle.cut_definitions.proofs.Lists.{Contains-here, Contains-there, Contains-cons_cases, Contains-nil}
use Rattle.cut_definitions.proofs.Bools.{same_tests}
use Rattle.rooted_cactus.specs.Sides.{from_here, intervals}
use Rattle.node_tree.specs.TreeSets.{IsUnder}

module _ (n : ℕ) (under : ℕ → VertexSet) where
  pub under_same : (first last : ℕ) (x y : VertexSet) → IsUnder n under first last x → IsUnder n under first last y → SameOn n x y
  under_same first last x y g h v a b = same_tests (x v) (y v)
      (λ t. let e = g.each v a b t in h.all e.0 v e.1 e.2 a b e.3)
      (λ t. let e = h.each v a b t in g.all e.0 v e.1 e.2 a b e.3)

  pub under_agree : (first last : ℕ) (x y : VertexSet) → SameOn n x y → IsUnder n under first last x → IsUnder n under first last y
  under_agree first last x y same g = record {
    each = λ v a b t. g.each v a b (same v a b ∙ t);
    all = λ i v l m a b t. sym (same v a b) ∙ g.all i v l m a b t;
  }

  under_one : (i : ℕ) (x : VertexSet) → SameOn n x (under i) → IsUnder n under i i x
  under_one i x same = record {
    each = λ v a b t. (i, omega arith, omega arith, sym (same v a b) ∙ t);
    all = λ j v l m a b t. let e : i ≡ j = omega (arith, l, m) in same v a b ∙ subst (λ (k : ℕ). under k v ≡ true) (sym e) t;
  }

  under_more : (first last : ℕ) (x y : VertexSet) → 1 ≤ first → first ≤ last → IsUnder n under first last x → SameOn n y (under (first - 1)) → IsUnder n under (first - 1) last (either x y)
  under_more first last x y one le g same = record {
    each = λ v a b t. ⊎_elim
        (λ p. let e = g.each v a b p in (e.0, omega (arith, e.1), e.2, e.3))
        (λ q. (first - 1, omega arith, omega (arith, le), sym (same v a b) ∙ q))
        (or_cases (x v) (y v) t);
    all = λ i v l m a b t. ⊎_elim
        (λ (lt : i < first). let e : i ≡ first - 1 = omega (arith, l, lt) in or_right (x v) (y v) (same v a b ∙ subst (λ (k : ℕ). under k v ≡ true) e t))
        (λ (ge : first ≤ i). or_left (x v) (y v) (g.all i v ge m a b t))
        (cases_lt i first);
  }

  -- each set is what is under one number, from the one before `top` downwards
  abbrev pub AreDown : ℕ → List VertexSet → Type 0
  AreDown top [] = ⊤
  AreDown top (s ∷ ss) = (1 ≤ top) × SameOn n s (under (top - 1)) × AreDown (top - 1) ss

  pub down_push : (top : ℕ) (ss : List VertexSet) (s : VertexSet) → AreDown top ss → length ss < top → SameOn n s (under (top - length ss - 1)) → AreDown top (ss ++ s ∷ [])
  down_push top [] s h lt same = let e : top - 0 - 1 ≡ top - 1 = omega arith in (omega (arith, lt), subst (λ (k : ℕ). SameOn n s (under k)) e same, tt)
  down_push top (t ∷ ts) s h lt same =
      let e : top - suc (length ts) - 1 ≡ top - 1 - length ts - 1 = omega arith in
      (h.0, h.1, down_push (top - 1) ts s h.2 (omega (arith, lt)) (subst (λ (k : ℕ). SameOn n s (under k)) e same))

  -- a set that is under some numbers, from one at least
  pub record IsSpan (low high : ℕ) (t : VertexSet) : Type 0 where
    pub first : ℕ
    pub last : ℕ
    pub low_first : low ≤ first
    pub ordered : first ≤ last
    pub last_high : last < high
    pub is_under : IsUnder n under first last t

  down_many : (top : ℕ) (ss : List VertexSet) → AreDown top ss → length ss ≤ top
  down_many top [] h = omega arith
  down_many top (s ∷ ss) h = omega (arith, h.0, down_many (top - 1) ss h.2)

  here_forth : (ss : List VertexSet) (top last : ℕ) (s t : VertexSet) → AreDown top ss → top ≤ last → IsUnder n under top last s → Contains (from_here s ss) t → IsSpan (top - length ss) (last + 1) t
  here_forth [] top last s t down le g h = ⊎_elim
      (λ (e : s ≡ t). record { first = top; last = last; low_first = omega arith; ordered = le; last_high = omega arith; is_under = subst (IsUnder n under top last) e g })
      (λ z. absurd (Contains-nil t z))
      (Contains-cons_cases s [] t h)
  here_forth (u ∷ us) top last s t down le g h = ⊎_elim
      (λ (e : s ≡ t). record { first = top; last = last; low_first = omega arith; ordered = le; last_high = omega arith; is_under = subst (IsUnder n under top last) e g })
      (λ z. let r = here_forth us (top - 1) last (either s u) t down.2 (omega (arith, le)) (under_more top last s u down.0 le g down.1) z in
      record { first = r.first; last = r.last; low_first = omega (arith, r.low_first); ordered = r.ordered; last_high = r.last_high; is_under = r.is_under })
      (Contains-cons_cases s (from_here (either s u) us) t h)

  here_now : (ss : List VertexSet) (s : VertexSet) → Contains (from_here s ss) s
  here_now [] s = Contains-here s []
  here_now (u ∷ us) s = Contains-here s (from_here (either s u) us)

  here_back : (ss : List VertexSet) (top last first : ℕ) (s : VertexSet) → AreDown top ss → top ≤ last → IsUnder n under top last s → top - length ss ≤ first → first ≤ top →
      (t : VertexSet) × Contains (from_here s ss) t × IsUnder n under first last t
  here_back [] top last first s down le g low high = let e : top ≡ first = omega (arith, low, high) in (s, here_now [] s, subst (λ (k : ℕ). IsUnder n under k last s) e g)
  here_back (u ∷ us) top last first s down le g low high = ⊎_elim
      (λ (e : first ≡ top). (s, here_now (u ∷ us) s, subst (λ (k : ℕ). IsUnder n under k last s) (sym e) g))
      (λ ne.
      let r = here_back us (top - 1) last first (either s u) down.2 (omega (arith, le)) (under_more top last s u down.0 le g down.1) (omega (arith, low, down.0)) (omega (arith, high, ne)) in
      (r.0, Contains-there s (from_here (either s u) us) r.0 r.1, r.2))
      (cases_eq first top)

  pub spans_forth : (ss : List VertexSet) (top : ℕ) (t : VertexSet) → AreDown top ss → Contains (intervals ss) t → IsSpan (top - length ss) top t
  spans_forth [] top t down h = absurd (Contains-nil t h)
  spans_forth (s ∷ ss) top t down h = ⊎_elim
      (λ c. let r = here_forth ss (top - 1) (top - 1) s t down.2 (omega arith) (under_one (top - 1) s down.1) c in
      record { first = r.first; last = r.last; low_first = omega (arith, r.low_first); ordered = r.ordered; last_high = omega (arith, r.last_high, down.0); is_under = r.is_under })
      (λ c. let r = spans_forth ss (top - 1) t down.2 c in
      record { first = r.first; last = r.last; low_first = omega (arith, r.low_first); ordered = r.ordered; last_high = omega (arith, r.last_high); is_under = r.is_under })
      (Contains-append_cases (from_here s ss) (intervals ss) t h)

  pub spans_back : (ss : List VertexSet) (top first last : ℕ) → AreDown top ss → top - length ss ≤ first → first ≤ last → last < top → (t : VertexSet) × Contains (intervals ss) t × IsUnder n under first last t
  spans_back [] top first last down low le high = absurd (omega (arith, low, le, high))
  spans_back (s ∷ ss) top first last down low le high = ⊎_elim
      (λ (e : last ≡ top - 1).
      let r = here_back ss (top - 1) last first s down.2 (omega (arith, e)) (subst (λ (k : ℕ). IsUnder n under (top - 1) k s) (sym e) (under_one (top - 1) s down.1)) (omega (arith, low)) (omega (arith, e, le)) in
      (r.0, Contains-append_left (from_here s ss) (intervals ss) r.0 r.1, r.2))
      (λ ne.
      let r = spans_back ss (top - 1) first last down.2 (omega (arith, low)) le (omega (arith, ne, high)) in
      (r.0, Contains-append_right (from_here s ss) (intervals ss) r.0 r.1, r.2))
      (cases_eq last (top - 1))
