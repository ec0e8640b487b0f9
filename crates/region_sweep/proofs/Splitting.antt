-- What a split of a region, and a vertex that enters, do to a tree of minimum cuts.
use Rattle.std.proofs.Common.{◌≡◌, ℕ, ◌+◌, ◌-◌, ◌<◌, ◌≤◌, ◌⊎◌, inl, inr, ⊎_elim, Bool, true, false, not, ◌&&◌, ◌||◌, leb, eqb, ltb, List, get_or, refl, sym, ◌∙◌, subst, ap, arith}
use Rattle.std.specs.Prelude.{◌≢◌}
use Rattle.std.proofs.lemmas.Bool.{cases_lt, cases_eq, cases_Bool, ltb-true, eqb-true, eq-eqb, ne_eqb, and_parts, false≢true, and_from, le-leb}
use Rattle.std.proofs.lemmas.Bool.Decides.{nat_tests}
use Rattle.std.proofs.lemmas.List.{get_or-set_other}
use Rattle.cut_definitions.specs.Graph.{Graph, IsGraph}
use Rattle.cut_definitions.specs.Weight.{VertexSet, weight, complement, HasVertex, IsMinimumCut}
use Rattle.cut_definitions.specs.Chain.{SameOn, IsInOnePart, first_parts, parts_between}
use Rattle.cut_definitions.proofs.WeightLaws.{IsMinimumCut-from_le, weight-complement}
use Rattle.cut_definitions.proofs.Bridge.{weight-agree}
use Rattle.cut_definitions.proofs.Vertices.{all_or_one, IsMinimumCut-agree}
use Rattle.cut_definitions.proofs.ChainLists.{IsMinimumCut-complement}
use Rattle.cut_definitions.proofs.Bools.{turned, and_second, same_tests, passes, fails}
use Rattle.cut_definitions.proofs.Numbers.{one_between}
use Rattle.region_flow.specs.Inflow.{IsAround}
use Rattle.region_flow.specs.Parted.{IsLaterParts, IsLightInterval, later_parts}
use Rattle.node_tree.specs.TreeSets.{TreeSets, IsTreeSide, IsInRegion}
use Rattle.node_tree.specs.Hung.{IsGrown, IsRegrouped, IsPartAlone}
use Rattle.node_tree.specs.Laws.{region_of, IsStepSide, LawOfSplitting, LawOfEntering, LawOfStart, LawOfEnd, LawOfParts}
use Rattle.region_sweep.proofs.RegionLaws.{region_cover, step_side_minimum}
use Rattle.region_sweep.proofs.Hanging.{hanging}

-- ---- the old sides

pub old_side : (n : ℕ) (tree tree' : TreeSets) → IsGrown n tree tree' → (x : VertexSet) → IsTreeSide n tree x → IsTreeSide n tree' x
old_side n tree tree' grown x s = record {
  first = s.first;
  last = s.last;
  from_one = s.from_one;
  ordered = s.ordered;
  below_count = omega (arith, s.below_count, grown.more);
  in_cycle = λ i l u. grown.follows_kept i (omega (arith, u, s.below_count)) ∙ s.in_cycle i l u;
  under = record {
    each = λ v a b h. let r = s.under.each v a b h in (r.0, r.1, r.2, grown.under_kept r.0 (omega (arith, r.2, s.below_count)) v a b ∙ r.3);
    all = λ i v l u a b h. s.under.all i v l u a b (sym (grown.under_kept i (omega (arith, u, s.below_count)) v a b) ∙ h);
  };
}

pub side_of_old : (n : ℕ) (tree tree' : TreeSets) → IsGrown n tree tree' → (x : VertexSet) → (s : IsTreeSide n tree' x) → s.last < tree.count → IsTreeSide n tree x
side_of_old n tree tree' grown x s below = record {
  first = s.first;
  last = s.last;
  from_one = s.from_one;
  ordered = s.ordered;
  below_count = below;
  in_cycle = λ i l u. sym (grown.follows_kept i (omega (arith, u, below))) ∙ s.in_cycle i l u;
  under = record {
    each = λ v a b h. let r = s.under.each v a b h in (r.0, r.1, r.2, sym (grown.under_kept r.0 (omega (arith, r.2, below)) v a b) ∙ r.3);
    all = λ i v l u a b h. s.under.all i v l u a b (grown.under_kept i (omega (arith, u, below)) v a b ∙ h);
  };
}

-- ---- a set inside one part

not_above : (k : ℕ) → not (ltb 0 k) ≡ true → k ≡ 0
not_above k h = grind (arith, nat_tests)

-- the only vertex of an inner part, as a set that is a minimum cut
alone_side : (g : Graph) → IsGraph g → (count : ℕ) (part : ℕ → ℕ) (v : ℕ) → 1 ≤ v → v ≤ g.vertices → IsPartAlone g.vertices count part v →
    (x : VertexSet) → IsMinimumCut g x → x v ≡ true → IsInOnePart g.vertices part x → IsLightInterval g count part x
alone_side g ok count part v v1 vn alone x hx xv one =
    let n = g.vertices in
    let i = part v in
    let same : SameOn n x (parts_between part i i) = λ u a b. same_tests (x u) (leb i (part u) && leb (part u) i)
    (λ h. one_between i (part u) ∙ eq-eqb (part u) i (one.inside u a b h ∙ sym (one.inside v v1 vn xv)))
    (λ h. let e : u ≡ v = alone.alone u a b (eqb-true (part u) i (sym (one_between i (part u)) ∙ h)) in subst (λ (k : ℕ). x k ≡ true) (sym e) xv) in
    record {
      first = i;
      last = i;
      light = record {
        from_two = alone.from_two;
        ordered = omega arith;
        below_count = alone.inner;
        minimum = IsMinimumCut-agree g ok x (parts_between part i i) same hx;
      };
      same = same;
    }

one_part_left : (g : Graph) → IsGraph g → (labels labels' : List ℕ) (region t count : ℕ) (part : ℕ → ℕ) → IsRegrouped g.vertices labels labels' region t count part →
    (x : VertexSet) → IsMinimumCut g x → ((v : ℕ) → 1 ≤ v → v ≤ g.vertices → x v ≡ true → get_or labels v 0 ≡ region) →
    IsInOnePart g.vertices part x → x t ≡ false → IsLightInterval g count part x ⊎ IsInRegion g.vertices labels' x
one_part_left g ok labels labels' region t count part re x hx inside one out =
    let n = g.vertices in
    ⊎_elim
    (λ (every : (v : ℕ) → 1 ≤ v → v ≤ n → (not (x v) || ltb 0 (get_or labels' v 0)) ≡ true).
    let w = hx.is_cut.some_in in
    let above : (v : ℕ) → 1 ≤ v → v ≤ n → x v ≡ true → 1 ≤ get_or labels' v 0 = λ v a b h.
    let l = ltb-true 0 (get_or labels' v 0) (passes (x v) (ltb 0 (get_or labels' v 0)) (every v a b) h) in omega arith in
    inr (record {
      region = get_or labels' w.vertex 0;
      outside = above w.vertex w.from_one w.to_n w.is_in;
      labelled = λ v a b h. re.shared v w.vertex a b w.from_one w.to_n (inside v a b h) (inside w.vertex w.from_one w.to_n w.is_in)
          (one.inside v a b h ∙ sym (one.inside w.vertex w.from_one w.to_n w.is_in)) (above v a b h) (above w.vertex w.from_one w.to_n w.is_in);
    }))
    (λ (h : HasVertex n (λ v. not (not (x v) || ltb 0 (get_or labels' v 0)))).
    let v = h.vertex in
    let split = and_parts (x v) (not (ltb 0 (get_or labels' v 0))) (fails (x v) (ltb 0 (get_or labels' v 0)) h.is_in) in
    ⊎_elim
    (λ (e : v ≡ t). absurd (false≢true (sym out ∙ subst (λ (k : ℕ). x k ≡ true) e split.0)))
    (λ (alone : IsPartAlone n count part v). inl (alone_side g ok count part v h.from_one h.to_n alone x hx split.0 one))
    (re.entered v h.from_one h.to_n (inside v h.from_one h.to_n split.0) (not_above (get_or labels' v 0) split.1)))
    (all_or_one n (λ v. not (x v) || ltb 0 (get_or labels' v 0)))

-- ---- the split

pub splitting : LawOfSplitting
splitting g labels labels' tree tree' region t count part at ok cuts one root ch grown hung re =
    let n = g.vertices in
    let step = hanging g (region_of labels region) t count part at tree.count tree' ok ch hung grown.some in
    let new_side : (x : VertexSet) → IsStepSide g count part x → IsTreeSide n tree' x = λ x h. ((step x).0 h).0 in
    let apart : region_of labels region 1 ≡ false = ne_eqb (get_or labels 1 0) region (λ e. absurd (omega (arith, e, root, one))) in
    record {
      sound = λ x s. ⊎_elim
          (λ (l : s.first < tree.count). ⊎_elim
          (λ (l' : s.last < tree.count). cuts.sound x (side_of_old n tree tree' grown x s l'))
          (λ (l' : tree.count ≤ s.last). absurd (false≢true (sym hung.apart ∙ s.in_cycle tree.count l l')))
          (cases_lt s.last tree.count))
          (λ (l : tree.count ≤ s.first). step_side_minimum g (region_of labels region) t count part ok ch x ((step x).1 (s, l)))
          (cases_lt s.first tree.count);
      complete = λ x hx out. ⊎_elim
          (λ s. inl (old_side n tree tree' grown x s))
          (λ (r : IsInRegion n labels x). ⊎_elim
          (λ (e : r.region ≡ region).
          let inside : (v : ℕ) → 1 ≤ v → v ≤ n → x v ≡ true → get_or labels v 0 ≡ region = λ v a b h. r.labelled v a b h ∙ e in
          ⊎_elim
          (λ h. inl (new_side x h))
          (λ (h : IsInOnePart n part x × (x t ≡ false)). ⊎_elim
          (λ k. inl (new_side x (inr k)))
          (λ k. inr k)
          (one_part_left g ok labels labels' region t count part re x hx inside h.0 h.1))
          (region_cover g (region_of labels region) t count part ok apart ch x hx (λ v a b h. eq-eqb (get_or labels v 0) region (inside v a b h))))
          (λ (ne : r.region ≢ region). inr (record {
            region = r.region;
            outside = r.outside;
            labelled = λ v a b h. re.kept v a b (λ e. ne (sym (r.labelled v a b h) ∙ e)) ∙ r.labelled v a b h;
          }))
          (cases_eq r.region region))
          (cuts.complete x hx out);
    }

-- ---- a vertex enters

and_drop : (a b : Bool) → (a ≡ true → b ≡ true) → (a && b) ≡ a
and_drop true b h = h refl
and_drop false b h = refl

-- a set inside a region weighs what its vertices of that label weigh
trimmed : (g : Graph) → IsGraph g → (labels : List ℕ) (region : ℕ) (x : VertexSet) → ((v : ℕ) → 1 ≤ v → v ≤ g.vertices → x v ≡ true → get_or labels v 0 ≡ region) →
    weight g (λ v. x v && eqb (get_or labels v 0) region) ≡ weight g x
trimmed g ok labels region x inside = weight-agree g ok (λ v. x v && eqb (get_or labels v 0) region) x
    (λ v a b. and_drop (x v) (eqb (get_or labels v 0) region) (λ h. eq-eqb (get_or labels v 0) region (inside v a b h)))

trimmed_around : (labels : List ℕ) (t : ℕ) (x : VertexSet) → 1 ≤ get_or labels t 0 → x t ≡ true → IsAround labels t (λ v. x v && eqb (get_or labels v 0) (get_or labels t 0))
trimmed_around labels t x one there = record {
  there = and_from (x t) (eqb (get_or labels t 0) (get_or labels t 0)) there (eq-eqb (get_or labels t 0) (get_or labels t 0) refl);
  inside = record {
    outside = one;
    labelled = λ v h. eqb-true (get_or labels v 0) (get_or labels t 0) (and_second (x v) (eqb (get_or labels v 0) (get_or labels t 0)) h);
  };
}

pub entering : LawOfEntering
entering g labels tree t amount ok cuts one to_n outside some hs weighs stop = record {
  sound = cuts.sound;
  complete = λ x hx out. ⊎_elim
      (λ s. inl s)
      (λ (r : IsInRegion g.vertices labels x). ⊎_elim
      (λ (there : x t ≡ true).
      let e : get_or labels t 0 ≡ r.region = r.labelled t one to_n there in
      let inside : (v : ℕ) → 1 ≤ v → v ≤ g.vertices → x v ≡ true → get_or labels v 0 ≡ get_or labels t 0 = λ v a b h. r.labelled v a b h ∙ sym e in
      let least : weight g x ≤ weight g some = hx.least some hs.is_cut in
      absurd (omega (arith, stop (λ v. x v && eqb (get_or labels v 0) (get_or labels t 0)) (trimmed_around labels t x outside there), trimmed g ok labels (get_or labels t 0) x inside, least, weighs)))
      (λ (lacks : x t ≡ false). inr (record {
        region = r.region;
        outside = r.outside;
        labelled = λ v a b h.
            let ne : v ≢ t = λ q. false≢true (sym lacks ∙ subst (λ (k : ℕ). x k ≡ true) q h) in
            get_or-set_other labels t v 0 0 ne ∙ r.labelled v a b h;
      }))
      (cases_Bool (x t)))
      (cuts.complete x hx out);
}

-- ---- the start and the end

pub start : LawOfStart
start g labels tree single all = record {
  sound = λ x s. absurd (omega (arith, s.from_one, s.ordered, s.below_count, single));
  complete = λ x hx out. inr (record {
    region = 1;
    outside = omega arith;
    labelled = λ v a b h.
        let ne : v ≢ 1 = λ q. false≢true (sym out ∙ subst (λ (k : ℕ). x k ≡ true) q h) in
        all v (omega (arith, a, ne)) b;
  });
}

pub end : LawOfEnd
end g labels tree cuts none x out = (
  λ s. cuts.sound x s,
  λ hx. ⊎_elim
      (λ s. s)
      (λ (r : IsInRegion g.vertices labels x).
      let w = hx.is_cut.some_in in
      absurd (omega (arith, r.labelled w.vertex w.from_one w.to_n w.is_in, none w.vertex w.from_one w.to_n, r.outside)))
      (cuts.complete x hx out),
)

-- ---- the parts as a chain

leb_not : (l p : ℕ) → p < l → not (leb l p) ≡ true
leb_not l p h = grind (arith, nat_tests)

first_is : (l p : ℕ) → leb p l ≡ not (leb (l + 1) p)
first_is l p = grind (arith, nat_tests)

pub parts : LawOfParts
parts g labels t count amount part ok one some hs weighs light =
    let n = g.vertices in
    let num = light.numbered in
    let region = get_or labels t 0 in
    let later_minimum : (i : ℕ) → 2 ≤ i → i ≤ count → IsMinimumCut g (later_parts part i) = λ i two le.
    IsMinimumCut-from_le g some (later_parts part i) hs (record {
      some_in = record { vertex = t; from_one = num.t_from_one; to_n = num.t_to_n; is_in = le-leb i (part t) (omega (arith, num.t_last)) };
      some_out = record { vertex = 1; from_one = num.s_from_one; to_n = num.s_to_n; is_in = leb_not i (part 1) (omega (arith, num.s_first)) };
    }) (omega (arith, light.light i two le, weighs)) in
    record {
      numbered = num;
      outside = λ v a b h. light.outside v a b (λ e. absurd (false≢true (sym h ∙ eq-eqb (get_or labels v 0) region e)));
      minimum = λ i low lt. IsMinimumCut-agree g ok (complement (later_parts part (i + 1))) (first_parts part i) (λ v a b. sym (first_is i (part v)))
          (IsMinimumCut-complement g (later_parts part (i + 1)) (later_minimum (i + 1) (omega arith) (omega arith)));
      no_other = λ x hx has_one lacks within.
          let d : VertexSet = λ v. not (x v) && eqb (get_or labels v 0) region in
          let there : not (x t) ≡ true = ap not lacks in
          let inside : (v : ℕ) → 1 ≤ v → v ≤ n → not (x v) ≡ true → get_or labels v 0 ≡ region = λ v a b h. eqb-true (get_or labels v 0) region (within v a b h) in
          let around = trimmed_around labels t (complement x) one there in
          let same_weight = trimmed g ok labels region (complement x) inside in
          let le : weight g x ≤ weight g some = hx.least some hs.is_cut in
          let ge : weight g some ≤ weight g x = hs.least x hx.is_cut in
          let p : IsLaterParts n count part d = light.no_other d around (omega (arith, same_weight, weight-complement g x, le, ge, weighs)) in
          let i = p.first - 1 in
          let e : i + 1 ≡ p.first = omega (arith, p.from_two) in
          record {
            last = i;
            from_one = omega (arith, p.from_two);
            below_count = omega (arith, p.from_two, p.to_count);
            same = λ v a b.
                let q : not (x v) ≡ leb (i + 1) (part v) =
                sym (and_drop (not (x v)) (eqb (get_or labels v 0) region) (λ h. within v a b h)) ∙ subst (λ (k : ℕ). d v ≡ leb k (part v)) (sym e) (p.same v a b) in
                turned (x v) (leb (i + 1) (part v)) q ∙ sym (first_is i (part v));
          };
    }
