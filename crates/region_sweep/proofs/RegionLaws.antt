-- The minimum cuts inside a region, by the parts of its chain.
use Rattle.std.proofs.Common.{◌≡◌, ℕ, ◌+◌, ◌-◌, ◌<◌, ◌≤◌, ◌⊎◌, inl, inr, ⊎_elim, Bool, true, false, not, ◌&&◌, ◌||◌, leb, eqb, refl, sym, ◌∙◌, subst, arith}
use Rattle.std.proofs.lemmas.Bool.{cases_lt, cases_order, cases_Bool, leb-true, eqb-true, eq-eqb, and_parts, false≢true, not_from_false, or_from, and_from, or_right, not_from_true, le-leb, lt-leb}
use Rattle.std.proofs.lemmas.Bool.Decides.{nat_tests}
use Rattle.cut_definitions.specs.Graph.{Graph, IsGraph}
use Rattle.cut_definitions.specs.Weight.{VertexSet, complement, both, either, minus, HasVertex, IsMinimumCut}
use Rattle.cut_definitions.specs.Chain.{SameOn, IsWithin, IsInnerInterval, IsInOnePart, IsMinimumInterval, first_parts, parts_between}
use Rattle.cut_definitions.proofs.WeightLaws.{crossing}
use Rattle.cut_definitions.proofs.Vertices.{all_or_one, IsMinimumCut-agree}
use Rattle.cut_definitions.proofs.ChainLists.{IsMinimumCut-complement}
use Rattle.cut_definitions.proofs.Bools.{not_then_never, in_neither, not_in_minus, in_minus, passes, fails, peel}
use Rattle.cut_definitions.proofs.Numbers.{in_interval, above_interval, below_interval, cut_right, cut_left, join_tests, after}
use Rattle.region_flow.specs.Parted.{IsRegionChain, IsLaterParts, IsLightInterval}
use Rattle.node_tree.specs.Laws.{IsStepSide, LawOfRegionCover}

-- ---- inside the region

-- a vertex outside a part from 2 on ..
outside_first : (p i : ℕ) → p ≡ 1 → 1 ≤ i → leb p i ≡ true
outside_first p i e l = le-leb p i (omega arith)

in_region_after : (c x : Bool) (r : Bool) → not (c && not x) ≡ true → (c ≡ false → r ≡ true) → (x ≡ true → r ≡ true) → r ≡ true
in_region_after false x r h k m = k refl
in_region_after true false r h k m = cc
in_region_after true true r h k m = m refl

in_region_before : (c x : Bool) (r : Bool) → not (x || c) ≡ true → (c ≡ false → r ≡ true) → r ≡ true
in_region_before false x r h k = k refl
in_region_before true x r h k = grind arith

-- what is not in the first parts is in the region
pub later_inside : (g : Graph) (region : VertexSet) (t count : ℕ) (part : ℕ → ℕ) → IsRegionChain g region t count part → (i : ℕ) → 1 ≤ i →
    (v : ℕ) → 1 ≤ v → v ≤ g.vertices → first_parts part i v ≡ false → region v ≡ true
later_inside g region t count part ch i low v v1 vn h =
    ⊎_elim
    (λ (e : region v ≡ true). e)
    (λ (e : region v ≡ false). absurd (false≢true (sym h ∙ outside_first (part v) i (ch.outside v v1 vn e) low)))
    (cases_Bool (region v))

-- ---- the other minimum cuts

intervals : (g : Graph) (region : VertexSet) (t count : ℕ) (part : ℕ → ℕ) → IsRegionChain g region t count part → (x : VertexSet) →
    IsMinimumCut g x → IsWithin g.vertices x region → x 1 ≡ false → x t ≡ false → (u v : ℕ) → 1 ≤ u → u ≤ g.vertices → 1 ≤ v → v ≤ g.vertices →
    x u ≡ true → x v ≡ true → part u < part v → IsInnerInterval g.vertices count part x
intervals g region t count part ch x hx within xs xt u v u1 un v1 vn xu xv lt =
    let num = ch.numbered in
    let n = g.vertices in
    let i = part u in
    let c = first_parts part i in
    let high : part v ≤ count = num.to_count v v1 vn in
    let low : 1 ≤ i = num.from_one u u1 un in
    let s_in : c 1 ≡ true = le-leb (part 1) i (omega (arith, num.s_first)) in
    let t_out : c t ≡ false = lt-leb (part t) i (omega (arith, num.t_last)) in
    let corners = crossing g x c hx (ch.minimum i low (omega arith)) (record {
      inside = record { vertex = u; from_one = u1; to_n = un; is_in = and_from (x u) (c u) xu (le-leb i i (omega arith)) };
      first = record { vertex = v; from_one = v1; to_n = vn; is_in = in_minus (x v) (c v) xv (lt-leb (part v) i lt) };
      second = record { vertex = 1; from_one = num.s_from_one; to_n = num.s_to_n; is_in = in_minus (c 1) (x 1) s_in xs };
      outside = record { vertex = t; from_one = num.t_from_one; to_n = num.t_to_n; is_in = in_neither (x t) (c t) xt t_out };
    }) in
    let later = later_inside g region t count part ch i low in
    let before = ch.no_other (minus c x) corners.second (in_minus (c 1) (x 1) s_in xs) (not_in_minus (c t) (x t) t_out)
    (λ y l h out. in_region_after (c y) (x y) (region y) out (later y l h) (within y l h)) in
    let upto = ch.no_other (either x c) corners.union (or_right (x 1) (c 1) s_in) (or_from (x t) (c t) xt t_out)
    (λ y l h out. in_region_before (c y) (x y) (region y) out (later y l h)) in
    let a = before.last in
    let b = upto.last in
    let same : SameOn n x (parts_between part (a + 1) b) = λ y l h.
    peel (x y) (c y) (leb (part y) a) (leb (part y) b) (leb (a + 1) (part y)) (before.same y l h) (upto.same y l h) (after a (part y)) in
    let at_u : (leb (a + 1) (part u) && leb (part u) b) ≡ true = sym (same u u1 un) ∙ xu in
    let ends = and_parts (leb (a + 1) (part u)) (leb (part u) b) at_u in
    let from : a + 1 ≤ part u = leb-true (a + 1) (part u) ends.0 in
    let to : part u ≤ b = leb-true (part u) b ends.1 in
    record {
      first = a + 1;
      last = b;
      from_two = omega (arith, before.from_one);
      ordered = omega arith;
      below_count = upto.below_count;
      same = same;
    }

cover : (g : Graph) (region : VertexSet) (t count : ℕ) (part : ℕ → ℕ) → IsRegionChain g region t count part → (x : VertexSet) →
    IsMinimumCut g x → IsWithin g.vertices x region → x 1 ≡ false → x t ≡ false → IsInOnePart g.vertices part x ⊎ IsInnerInterval g.vertices count part x
cover g region t count part ch x hx within xs xt =
    let n = g.vertices in
    let some = hx.is_cut.some_in in
    let w = some.vertex in
    let i = part w in
    ⊎_elim
    (λ (every : (v : ℕ) → 1 ≤ v → v ≤ n → (not (x v) || eqb (part v) i) ≡ true).
    inl (record { number = i; inside = λ v a b h. eqb-true (part v) i (passes (x v) (eqb (part v) i) (every v a b) h) }))
    (λ (h : HasVertex n (λ v. not (not (x v) || eqb (part v) i))).
    let v = h.vertex in
    let split = and_parts (x v) (not (eqb (part v) i)) (fails (x v) (eqb (part v) i) h.is_in) in
    inr (⊎_elim
    (λ (e : part v ≡ i). absurd (not_then_never (eqb (part v) i) split.1 (eq-eqb (part v) i e)))
    (⊎_elim
    (λ (l : part v < i). intervals g region t count part ch x hx within xs xt v w h.from_one h.to_n some.from_one some.to_n split.0 some.is_in l)
    (λ (l : i < part v). intervals g region t count part ch x hx within xs xt w v some.from_one some.to_n h.from_one h.to_n some.is_in split.0 l))
    (cases_order (part v) i)))
    (all_or_one n (λ v. not (x v) || eqb (part v) i))

-- ---- where a set inside the region lies

not_twice : (a : Bool) → not (not a) ≡ true → a ≡ true
not_twice a h = grind arith

later_same : (a : Bool) (p l : ℕ) → not a ≡ leb p l → a ≡ leb (l + 1) p
later_same a p l h = grind (arith, nat_tests)

pub region_cover : LawOfRegionCover
region_cover g region t count part ok out ch x hx within =
    let n = g.vertices in
    let num = ch.numbered in
    let x_one : x 1 ≡ false =
    ⊎_elim
    (λ (e : x 1 ≡ true). absurd (false≢true (sym out ∙ within 1 num.s_from_one num.s_to_n e)))
    (λ (e : x 1 ≡ false). e)
    (cases_Bool (x 1)) in
    ⊎_elim
    (λ (e : x t ≡ true).
    let first = ch.no_other (complement x) (IsMinimumCut-complement g x hx) (not_from_false (x 1) x_one) (not_from_true (x t) e)
    (λ v l h k. within v l h (not_twice (x v) k)) in
    inl (inl (record {
      first = first.last + 1;
      from_two = omega (arith, first.from_one);
      to_count = omega (arith, first.below_count);
      same = λ v l h. later_same (x v) (part v) first.last (first.same v l h);
    })))
    (λ (e : x t ≡ false). ⊎_elim
    (λ (one : IsInOnePart n part x). inr (one, e))
    (λ (w : IsInnerInterval n count part x). inl (inr (record {
      first = w.first;
      last = w.last;
      light = record {
        from_two = w.from_two;
        ordered = w.ordered;
        below_count = w.below_count;
        minimum = IsMinimumCut-agree g ok x (parts_between part w.first w.last) w.same hx;
      };
      same = w.same;
    })))
    (cover g region t count part ch x hx within x_one e))
    (cases_Bool (x t))

-- ---- intervals that are minimum cuts

-- an interval that is cut after one of its parts leaves two that are minimum cuts
cut_after : (g : Graph) (region : VertexSet) (t count : ℕ) (part : ℕ → ℕ) → IsGraph g → IsRegionChain g region t count part → (a b j : ℕ) →
    IsMinimumInterval g count part a b → a ≤ j → j < b → IsMinimumInterval g count part a j × IsMinimumInterval g count part (j + 1) b
cut_after g region t count part ok ch a b j h aj jb =
    let num = ch.numbered in
    let x = parts_between part a b in
    let c = first_parts part j in
    let from_two = h.from_two in
    let below = h.below_count in
    let at_a = num.none_empty a (omega arith) (omega arith) in
    let at_b = num.none_empty b (omega arith) (omega arith) in
    let part_a : part at_a.vertex ≡ a = eqb-true _ _ at_a.is_in in
    let part_b : part at_b.vertex ≡ b = eqb-true _ _ at_b.is_in in
    let corners = crossing g x c h.minimum (ch.minimum j (omega arith) (omega arith)) (record {
      inside = record { vertex = at_a.vertex; from_one = at_a.from_one; to_n = at_a.to_n; is_in = and_from (x at_a.vertex) (c at_a.vertex) (in_interval a b (part at_a.vertex) (omega arith) (omega arith)) (le-leb (part at_a.vertex) j (omega arith)) };
      first = record { vertex = at_b.vertex; from_one = at_b.from_one; to_n = at_b.to_n; is_in = in_minus (x at_b.vertex) (c at_b.vertex) (in_interval a b (part at_b.vertex) (omega arith) (omega arith)) (lt-leb (part at_b.vertex) j (omega arith)) };
      second = record { vertex = 1; from_one = num.s_from_one; to_n = num.s_to_n; is_in = in_minus (c 1) (x 1) (le-leb (part 1) j (omega (arith, num.s_first))) (below_interval a b (part 1) (omega (arith, num.s_first))) };
      outside = record { vertex = t; from_one = num.t_from_one; to_n = num.t_to_n; is_in = in_neither (x t) (c t) (above_interval a b (part t) (omega (arith, num.t_last))) (lt-leb (part t) j (omega (arith, num.t_last))) };
    }) in (
      record {
        from_two = from_two;
        ordered = aj;
        below_count = omega arith;
        minimum = IsMinimumCut-agree g ok (both x c) (parts_between part a j) (λ v l u. cut_left a b j (part v) jb) corners.inside;
      },
      record {
        from_two = omega arith;
        ordered = omega arith;
        below_count = below;
        minimum = IsMinimumCut-agree g ok (minus x c) (parts_between part (j + 1) b) (λ v l u. cut_right a b j (part v) aj) corners.first;
      },
    )

pub subintervals : (g : Graph) (region : VertexSet) (t count : ℕ) (part : ℕ → ℕ) → IsGraph g → IsRegionChain g region t count part →
    (a b i j : ℕ) → IsMinimumInterval g count part a b → a ≤ i → i ≤ j → j ≤ b → IsMinimumInterval g count part i j
subintervals g region t count part ok ch a b i j h ai ij jb =
    let upto : IsMinimumInterval g count part a j =
    ⊎_elim
    (λ (l : j < b). (cut_after g region t count part ok ch a b j h (omega arith) l).0)
    (λ (l : b ≤ j). let e : b ≡ j = omega arith in subst (λ (k : ℕ). IsMinimumInterval g count part a k) e h)
    (cases_lt j b) in
    ⊎_elim
    (λ (l : a < i).
    let e : i - 1 + 1 ≡ i = omega arith in
    let back : IsMinimumInterval g count part (i - 1 + 1) j = (cut_after g region t count part ok ch a j (i - 1) upto (omega arith) (omega arith)).1 in
    subst (λ (k : ℕ). IsMinimumInterval g count part k j) e back)
    (λ (l : i ≤ a). let e : a ≡ i = omega arith in subst (λ (k : ℕ). IsMinimumInterval g count part k j) e upto)
    (cases_lt a i)

pub joined_intervals : (g : Graph) (region : VertexSet) (t count : ℕ) (part : ℕ → ℕ) → IsGraph g → IsRegionChain g region t count part →
    (a b c d : ℕ) → IsMinimumInterval g count part a b → IsMinimumInterval g count part c d → a ≤ c → c ≤ b → b ≤ d → IsMinimumInterval g count part a d
joined_intervals g region t count part ok ch a b c d h k ac cb bd =
    let num = ch.numbered in
    let x = parts_between part a b in
    let y = parts_between part c d in
    let from_two = h.from_two in
    let below = k.below_count in
    ⊎_elim
    (λ (l : a < c). ⊎_elim
    (λ (m : b < d).
    let at_a = num.none_empty a (omega arith) (omega arith) in
    let at_c = num.none_empty c (omega arith) (omega arith) in
    let at_d = num.none_empty d (omega arith) (omega arith) in
    let part_a : part at_a.vertex ≡ a = eqb-true _ _ at_a.is_in in
    let part_c : part at_c.vertex ≡ c = eqb-true _ _ at_c.is_in in
    let part_d : part at_d.vertex ≡ d = eqb-true _ _ at_d.is_in in
    let corners = crossing g x y h.minimum k.minimum (record {
      inside = record { vertex = at_c.vertex; from_one = at_c.from_one; to_n = at_c.to_n; is_in = and_from (x at_c.vertex) (y at_c.vertex) (in_interval a b (part at_c.vertex) (omega arith) (omega arith)) (in_interval c d (part at_c.vertex) (omega arith) (omega arith)) };
      first = record { vertex = at_a.vertex; from_one = at_a.from_one; to_n = at_a.to_n; is_in = in_minus (x at_a.vertex) (y at_a.vertex) (in_interval a b (part at_a.vertex) (omega arith) (omega arith)) (below_interval c d (part at_a.vertex) (omega arith)) };
      second = record { vertex = at_d.vertex; from_one = at_d.from_one; to_n = at_d.to_n; is_in = in_minus (y at_d.vertex) (x at_d.vertex) (in_interval c d (part at_d.vertex) (omega arith) (omega arith)) (above_interval a b (part at_d.vertex) (omega arith)) };
      outside = record { vertex = 1; from_one = num.s_from_one; to_n = num.s_to_n; is_in = in_neither (x 1) (y 1) (below_interval a b (part 1) (omega (arith, num.s_first))) (below_interval c d (part 1) (omega (arith, num.s_first))) };
    }) in
    record {
      from_two = from_two;
      ordered = omega arith;
      below_count = below;
      minimum = IsMinimumCut-agree g ok (either x y) (parts_between part a d) (λ v f u. join_tests a b c d (part v) ac cb bd) corners.union;
    })
    (λ (m : d ≤ b). let e : b ≡ d = omega arith in subst (λ (i : ℕ). IsMinimumInterval g count part a i) e h)
    (cases_lt b d))
    (λ (l : c ≤ a). let e : c ≡ a = omega arith in subst (λ (i : ℕ). IsMinimumInterval g count part i d) e k)
    (cases_lt a c)

-- ---- what the parts show is a minimum cut

later_complement : (p l : ℕ) → not (leb p l) ≡ leb (l + 1) p
later_complement p l = grind (arith, nat_tests)

pub step_side_minimum : (g : Graph) (region : VertexSet) (t count : ℕ) (part : ℕ → ℕ) → IsGraph g → IsRegionChain g region t count part →
    (x : VertexSet) → IsStepSide g count part x → IsMinimumCut g x
step_side_minimum g region t count part ok ch x h =
    ⊎_elim
    (λ (p : IsLaterParts g.vertices count part x).
    let l = p.first - 1 in
    let e : l + 1 ≡ p.first = omega (arith, p.from_two) in
    let m = IsMinimumCut-complement g (first_parts part l) (ch.minimum l (omega (arith, p.from_two)) (omega (arith, p.from_two, p.to_count))) in
    IsMinimumCut-agree g ok (complement (first_parts part l)) x
    (λ v a b. later_complement (part v) l ∙ subst (λ (k : ℕ). leb (l + 1) (part v) ≡ leb k (part v)) e refl ∙ sym (p.same v a b)) m)
    (λ (p : IsLightInterval g count part x).
    IsMinimumCut-agree g ok (parts_between part p.first p.last) x (λ v a b. sym (p.same v a b)) p.light.minimum)
    h
