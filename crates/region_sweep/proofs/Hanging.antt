-- The sides of the nodes of the parts of a region are what the parts show.
use Rattle.std.proofs.Common.{◌≡◌, ℕ, suc, zero, ◌+◌, ◌-◌, ◌<◌, ◌≤◌, ◌⊎◌, inl, inr, ⊎_elim, Bool, true, false, ◌&&◌, ◌||◌, leb, eqb, refl, sym, ◌∙◌, subst, ap, arith}
use Rattle.std.proofs.lemmas.Bool.{cases_eq, false≢true}
use Rattle.std.proofs.lemmas.Bool.Decides.{nat_tests}
use Rattle.cut_definitions.specs.Graph.{Graph, IsGraph}
use Rattle.cut_definitions.specs.Weight.{VertexSet}
use Rattle.cut_definitions.specs.Chain.{SameOn, IsMinimumInterval, one_part, parts_between}
use Rattle.cut_definitions.proofs.Bools.{same_tests, second_in}
use Rattle.cut_definitions.proofs.Numbers.{one_between}
use Rattle.region_flow.specs.Parted.{IsRegionChain, IsLaterParts, IsLightInterval, later_parts}
use Rattle.node_tree.specs.TreeSets.{TreeSets, IsUnder, AreInCycle}
use Rattle.node_tree.specs.Hung.{IsBridged, IsFollowed, IsTouching, AreHung}
use Rattle.node_tree.specs.Laws.{LawOfHanging}
use Rattle.region_sweep.proofs.RegionLaws.{subintervals, joined_intervals}

-- ---- plain tests

either_cases : (a b c : Bool) → a ≡ (b || c) → a ≡ true → (b ≡ true) ⊎ (c ≡ true)
either_cases a true c h k = inl refl
either_cases a false c h k = inr (sym h ∙ k)

first_in : (a b c : Bool) → a ≡ (b || c) → b ≡ true → a ≡ true
first_in a b c h k = grind arith

later_one : (i p : ℕ) → leb i p ≡ (eqb p i || leb (i + 1) p)
later_one i p = grind (arith, nat_tests)

between_later : (a m p : ℕ) → a ≤ m → leb a p ≡ ((leb a p && leb p m) || leb (m + 1) p)
between_later a m p h = grind (arith, nat_tests)

between_one : (a m p : ℕ) → a ≤ m → (leb a p && leb p (m + 1)) ≡ ((leb a p && leb p m) || eqb p (m + 1))
between_one a m p h = grind (arith, nat_tests)

-- ---- what is under several nodes

pub under_one : (n : ℕ) (under : ℕ → VertexSet) (i : ℕ) (x : VertexSet) → SameOn n (under i) x → IsUnder n under i i x
under_one n under i x same = record {
  each = λ v a b h. (i, omega arith, omega arith, same v a b ∙ h);
  all = λ j v l u a b h. let e : j ≡ i = omega arith in sym (same v a b) ∙ subst (λ (k : ℕ). under k v ≡ true) e h;
}

under_before : (n : ℕ) (under : ℕ → VertexSet) (i last : ℕ) (x y z : VertexSet) → SameOn n (under i) y → IsUnder n under (i + 1) last z → i < last →
    ((v : ℕ) → x v ≡ (y v || z v)) → IsUnder n under i last x
under_before n under i last x y z same rest lt union = record {
  each = λ v a b h. ⊎_elim
      (λ (k : y v ≡ true). (i, omega arith, omega arith, same v a b ∙ k))
      (λ (k : z v ≡ true). let r = rest.each v a b k in (r.0, omega (arith, r.1), r.2, r.3))
      (either_cases (x v) (y v) (z v) (union v) h);
  all = λ j v l u a b h. ⊎_elim
      (λ (e : j ≡ i). first_in (x v) (y v) (z v) (union v) (sym (same v a b) ∙ subst (λ (k : ℕ). under k v ≡ true) e h))
      (λ ne. second_in (x v) (y v) (z v) (union v) (rest.all j v (omega arith) u a b h))
      (cases_eq j i);
}

pub under_after : (n : ℕ) (under : ℕ → VertexSet) (first last : ℕ) (x y z : VertexSet) → IsUnder n under first last y → SameOn n (under (last + 1)) z → first ≤ last →
    ((v : ℕ) → x v ≡ (y v || z v)) → IsUnder n under first (last + 1) x
under_after n under first last x y z rest same le union = record {
  each = λ v a b h. ⊎_elim
      (λ (k : y v ≡ true). let r = rest.each v a b k in (r.0, r.1, omega (arith, r.2), r.3))
      (λ (k : z v ≡ true). (last + 1, omega arith, omega arith, same v a b ∙ k))
      (either_cases (x v) (y v) (z v) (union v) h);
  all = λ j v l u a b h. ⊎_elim
      (λ (e : j ≡ last + 1). second_in (x v) (y v) (z v) (union v) (sym (same v a b) ∙ subst (λ (k : ℕ). under k v ≡ true) e h))
      (λ ne. first_in (x v) (y v) (z v) (union v) (rest.all j v l (omega arith) a b h))
      (cases_eq j (last + 1));
}

pub under_same : (n : ℕ) (under : ℕ → VertexSet) (first last : ℕ) (x y : VertexSet) → IsUnder n under first last x → IsUnder n under first last y → SameOn n x y
under_same n under first last x y h k v a b = same_tests (x v) (y v)
    (λ t. let r = h.each v a b t in k.all r.0 v r.1 r.2 a b r.3)
    (λ t. let r = k.each v a b t in h.all r.0 v r.1 r.2 a b r.3)

pub under_agree : (n : ℕ) (under : ℕ → VertexSet) (first last : ℕ) (x y : VertexSet) → SameOn n x y → IsUnder n under first last y → IsUnder n under first last x
under_agree n under first last x y same k = record {
  each = λ v a b t. k.each v a b (sym (same v a b) ∙ t);
  all = λ i v l u a b t. same v a b ∙ k.all i v l u a b t;
}

at_end : (n : ℕ) (under : ℕ → VertexSet) (first last last' : ℕ) (x : VertexSet) → last ≡ last' → IsUnder n under first last x → IsUnder n under first last' x
at_end n under first last last' x e h = subst (λ (k : ℕ). IsUnder n under first k x) e h

at_start : (n : ℕ) (under : ℕ → VertexSet) (first first' last : ℕ) (x : VertexSet) → first ≡ first' → IsUnder n under first last x → IsUnder n under first' last x
at_start n under first first' last x e h = subst (λ (k : ℕ). IsUnder n under k last x) e h

-- ---- the later parts are a side

-- the nodes from that of a part on, to the end of its block
record IsTail (n : ℕ) (tree : TreeSets) (from : ℕ) (x : VertexSet) : Type 0 where
  last : ℕ
  ordered : from ≤ last
  below_count : last < tree.count
  in_cycle : AreInCycle tree.follows from last
  under : IsUnder n tree.under from last x

none_follows : (follows : ℕ → Bool) (i : ℕ) → AreInCycle follows i i
none_follows follows i j l u = absurd (omega arith)

one_follows : (follows : ℕ → Bool) (i : ℕ) → follows (i + 1) ≡ true → AreInCycle follows i (i + 1)
one_follows follows i h j l u = let e : i + 1 ≡ j = omega arith in subst (λ (k : ℕ). follows k ≡ true) e h

more_follow : (follows : ℕ → Bool) (i last : ℕ) → follows (i + 1) ≡ true → AreInCycle follows (i + 1) last → AreInCycle follows i last
more_follow follows i last h rest j l u = ⊎_elim
    (λ (e : j ≡ i + 1). subst (λ (k : ℕ). follows k ≡ true) (sym e) h)
    (λ ne. rest j (omega arith) u)
    (cases_eq j (i + 1))

tail : (g : Graph) (count : ℕ) (part : ℕ → ℕ) (at : ℕ → ℕ) (old : ℕ) (tree : TreeSets) → AreHung g count part at old tree →
    (m i : ℕ) → i + m ≡ count → 2 ≤ i → IsTail g.vertices tree (at i) (later_parts part i)
tail g count part at old tree hung zero i e two =
    let is : count ≡ i = omega arith in
    subst (λ (k : ℕ). IsTail g.vertices tree (at k) (later_parts part k)) is (record {
      last = at count;
      ordered = omega arith;
      below_count = omega (arith, hung.last);
      in_cycle = none_follows tree.follows (at count);
      under = under_one g.vertices tree.under (at count) (later_parts part count) hung.last_under;
    })
tail g count part at old tree hung (suc m) i e two =
    let n = g.vertices in
    let rest = tail g count part at old tree hung m (i + 1) (omega arith) (omega arith) in
    ⊎_elim
    (λ (b : IsBridged g count part at tree i). record {
      last = at i;
      ordered = omega arith;
      below_count = omega (arith, rest.ordered, rest.below_count, b.next);
      in_cycle = none_follows tree.follows (at i);
      under = under_one n tree.under (at i) (later_parts part i) b.under;
    })
    (⊎_elim
    (λ (f : IsFollowed g count part at tree i). record {
      last = rest.last;
      ordered = omega (arith, rest.ordered, f.next);
      below_count = rest.below_count;
      in_cycle = more_follow tree.follows (at i) rest.last f.follows (subst (λ (k : ℕ). AreInCycle tree.follows k rest.last) f.next rest.in_cycle);
      under = under_before n tree.under (at i) rest.last (later_parts part i) (one_part part i) (later_parts part (i + 1)) f.under
          (at_start n tree.under (at (i + 1)) (at i + 1) rest.last (later_parts part (i + 1)) f.next rest.under)
          (omega (arith, rest.ordered, f.next)) (λ v. later_one i (part v));
    })
    (λ (t : IsTouching g count part at tree i). record {
      last = at i + 1;
      ordered = omega arith;
      below_count = omega (arith, rest.ordered, rest.below_count, t.next);
      in_cycle = one_follows tree.follows (at i) t.follows;
      under = under_before n tree.under (at i) (at i + 1) (later_parts part i) (one_part part i) (later_parts part (i + 1)) t.under
          (under_one n tree.under (at i + 1) (later_parts part (i + 1)) t.under_between) (omega arith) (λ v. later_one i (part v));
    }))
    (hung.each i two (omega arith))

-- the nodes of the parts come after the old nodes
after_old : (g : Graph) (count : ℕ) (part : ℕ → ℕ) (at : ℕ → ℕ) (old : ℕ) (tree : TreeSets) → AreHung g count part at old tree →
    (m : ℕ) → 2 + m ≤ count → old ≤ at (2 + m)
after_old g count part at old tree hung zero le = omega (arith, hung.first)
after_old g count part at old tree hung (suc m) le =
    let rest = after_old g count part at old tree hung m (omega arith) in
    let i = 2 + m in
    let up : at i ≤ at (i + 1) = ⊎_elim
    (λ (b : IsBridged g count part at tree i). omega (arith, b.next))
    (⊎_elim (λ (f : IsFollowed g count part at tree i). omega (arith, f.next)) (λ (t : IsTouching g count part at tree i). omega (arith, t.next)))
    (hung.each i (omega arith) (omega arith)) in
    let e : i + 1 ≡ 2 + suc m = omega arith in
    subst (λ (k : ℕ). old ≤ at k) e (omega (arith, rest, up))

old_le_at : (g : Graph) (count : ℕ) (part : ℕ → ℕ) (at : ℕ → ℕ) (old : ℕ) (tree : TreeSets) → AreHung g count part at old tree →
    (i : ℕ) → 2 ≤ i → i ≤ count → old ≤ at i
old_le_at g count part at old tree hung i two le =
    let e : 2 + (i - 2) ≡ i = omega arith in
    subst (λ (k : ℕ). old ≤ at k) e (after_old g count part at old tree hung (i - 2) (omega arith))

-- ---- an interval that is a minimum cut is a side

record IsRun (n : ℕ) (tree : TreeSets) (from to : ℕ) (x : VertexSet) : Type 0 where
  ordered : from ≤ to
  in_cycle : AreInCycle tree.follows from to
  under : IsUnder n tree.under from to x

-- a part that is a minimum cut is all that is under its node
alone_under : (g : Graph) (count : ℕ) (part : ℕ → ℕ) (at : ℕ → ℕ) (old : ℕ) (tree : TreeSets) → AreHung g count part at old tree →
    (i : ℕ) → IsMinimumInterval g count part i i → SameOn g.vertices (tree.under (at i)) (one_part part i)
alone_under g count part at old tree hung i light =
    ⊎_elim
    (λ (b : IsBridged g count part at tree i). absurd (b.not_light light))
    (⊎_elim (λ (f : IsFollowed g count part at tree i). f.under) (λ (t : IsTouching g count part at tree i). t.under))
    (hung.each i light.from_two light.below_count)

between_is_one : (g : Graph) (part : ℕ → ℕ) (i : ℕ) → SameOn g.vertices (one_part part i) (parts_between part i i)
between_is_one g part i v a b = sym (one_between i (part v))

run : (g : Graph) (region : VertexSet) (t count : ℕ) (part : ℕ → ℕ) (at : ℕ → ℕ) (old : ℕ) (tree : TreeSets) → IsGraph g → IsRegionChain g region t count part →
    AreHung g count part at old tree → (m a : ℕ) → IsMinimumInterval g count part a (a + m) → IsRun g.vertices tree (at a) (at (a + m)) (parts_between part a (a + m))
run g region t count part at old tree ok ch hung zero a light =
    let e : a ≡ a + zero = omega arith in
    let here : IsMinimumInterval g count part a a = subst (λ (k : ℕ). IsMinimumInterval g count part a k) (sym e) light in
    let same = alone_under g count part at old tree hung a here in
    subst (λ (k : ℕ). IsRun g.vertices tree (at a) (at k) (parts_between part a k)) e (record {
      ordered = omega arith;
      in_cycle = none_follows tree.follows (at a);
      under = under_one g.vertices tree.under (at a) (parts_between part a a) (λ v l u. same v l u ∙ between_is_one g part a v l u);
    })
run g region t count part at old tree ok ch hung (suc m) a light =
    let n = g.vertices in
    let b = a + m in
    let e : b + 1 ≡ a + suc m = omega arith in
    let sub = subintervals g region t count part ok ch a (a + suc m) in
    let rest = run g region t count part at old tree ok ch hung m a (sub a b light (omega arith) (omega arith) (omega arith)) in
    let here = sub b b light (omega arith) (omega arith) (omega arith) in
    let there = sub (b + 1) (b + 1) light (omega arith) (omega arith) (omega arith) in
    let pair = sub b (b + 1) light (omega arith) (omega arith) (omega arith) in
    let f : IsFollowed g count part at tree b = ⊎_elim
    (λ (q : IsBridged g count part at tree b). absurd (q.not_light here))
    (⊎_elim (λ (q : IsFollowed g count part at tree b). q) (λ (q : IsTouching g count part at tree b). absurd (q.no_pair pair)))
    (hung.each b here.from_two here.below_count) in
    let same = alone_under g count part at old tree hung (b + 1) there in
    let to = subst (λ (k : ℕ). SameOn n (tree.under k) (one_part part (b + 1))) f.next same in
    let added : IsUnder n tree.under (at a) (at b + 1) (parts_between part a (b + 1)) =
    under_after n tree.under (at a) (at b) (parts_between part a (b + 1)) (parts_between part a b) (one_part part (b + 1)) rest.under to rest.ordered
    (λ v. between_one a b (part v) (omega arith)) in
    subst (λ (k : ℕ). IsRun n tree (at a) (at k) (parts_between part a k)) e (record {
      ordered = omega (arith, rest.ordered, f.next);
      in_cycle = λ j l u. ⊎_elim
          (λ (q : j ≡ at b + 1). subst (λ (k : ℕ). tree.follows k ≡ true) (sym q) f.follows)
          (λ ne. rest.in_cycle j l (omega (arith, f.next, ne, u)))
          (cases_eq j (at b + 1));
      under = at_end n tree.under (at a) (at b + 1) (at (b + 1)) (parts_between part a (b + 1)) (sym f.next) added;
    })

-- ---- a side of the nodes is what the parts show

-- the node of a part, or the node after a part that touches the next
record IsNodeOf (g : Graph) (count : ℕ) (part : ℕ → ℕ) (at : ℕ → ℕ) (tree : TreeSets) (i l : ℕ) : Type 0 where
  is : i ≡ at l
  to_count : l ≤ count

record IsNodeAfter (g : Graph) (count : ℕ) (part : ℕ → ℕ) (at : ℕ → ℕ) (tree : TreeSets) (i l : ℕ) : Type 0 where
  is : i ≡ at l + 1
  below_count : l < count
  touching : IsTouching g count part at tree l

record IsPlaced (g : Graph) (count : ℕ) (part : ℕ → ℕ) (at : ℕ → ℕ) (tree : TreeSets) (i : ℕ) : Type 0 where
  number : ℕ
  from_two : 2 ≤ number
  place : IsNodeOf g count part at tree i number ⊎ IsNodeAfter g count part at tree i number

placed : (g : Graph) (count : ℕ) (part : ℕ → ℕ) (at : ℕ → ℕ) (old : ℕ) (tree : TreeSets) → AreHung g count part at old tree →
    (m l i : ℕ) → l + m ≡ count → 2 ≤ l → at l ≤ i → i < tree.count → IsPlaced g count part at tree i
placed g count part at old tree hung zero l i e two from below =
    let same : count ≡ l = omega arith in
    let low : at count ≤ i = subst (λ (k : ℕ). at k ≤ i) (sym same) from in
    record { number = count; from_two = omega arith; place = inl (record { is = omega (arith, hung.last, low); to_count = omega arith }) }
placed g count part at old tree hung (suc m) l i e two from below =
    ⊎_elim
    (λ (q : i ≡ at l). record { number = l; from_two = two; place = inl (record { is = q; to_count = omega arith }) })
    (λ ne. ⊎_elim
    (λ (b : IsBridged g count part at tree l). placed g count part at old tree hung m (l + 1) i (omega arith) (omega arith) (omega (arith, b.next, ne, from)) below)
    (⊎_elim
    (λ (f : IsFollowed g count part at tree l). placed g count part at old tree hung m (l + 1) i (omega arith) (omega arith) (omega (arith, f.next, ne, from)) below)
    (λ (t : IsTouching g count part at tree l). ⊎_elim
    (λ (q : i ≡ at l + 1). record { number = l; from_two = two; place = inr (record { is = q; below_count = omega arith; touching = t }) })
    (λ ne'. placed g count part at old tree hung m (l + 1) i (omega arith) (omega arith) (omega (arith, t.next, ne, ne', from)) below)
    (cases_eq i (at l + 1))))
    (hung.each l two (omega arith)))
    (cases_eq i (at l))

-- nodes from `first` to `last` that have all later parts from one on; no node follows
record AreWhole (g : Graph) (count : ℕ) (part : ℕ → ℕ) (tree : TreeSets) (first last : ℕ) : Type 0 where
  from : ℕ
  from_two : 2 ≤ from
  to_count : from ≤ count
  under : IsUnder g.vertices tree.under first last (later_parts part from)
  ends : (last + 1 ≡ tree.count) ⊎ (tree.follows (last + 1) ≡ false)

-- nodes that have the parts of an interval that is a minimum cut
record AreOpen (g : Graph) (count : ℕ) (part : ℕ → ℕ) (at : ℕ → ℕ) (tree : TreeSets) (first last : ℕ) : Type 0 where
  from : ℕ
  to : ℕ
  is : last ≡ at to
  light : IsMinimumInterval g count part from to
  under : IsUnder g.vertices tree.under first last (parts_between part from to)
  goes_on : IsFollowed g count part at tree to ⊎ IsTouching g count part at tree to

abbrev AreShown : Graph → ℕ → (ℕ → ℕ) → (ℕ → ℕ) → TreeSets → ℕ → ℕ → Type 0
AreShown g count part at tree first last = AreWhole g count part tree first last ⊎ AreOpen g count part at tree first last

-- the part of a number is all that its node has, or all later parts are under it
of_part : (g : Graph) (count : ℕ) (part : ℕ → ℕ) (at : ℕ → ℕ) (old : ℕ) (tree : TreeSets) → AreHung g count part at old tree →
    (l : ℕ) → 2 ≤ l → l ≤ count → AreShown g count part at tree (at l) (at l)
of_part g count part at old tree hung l two le =
    let n = g.vertices in
    ⊎_elim
    (λ (e : l ≡ count). inl (subst (λ (k : ℕ). AreWhole g count part tree (at k) (at k)) (sym e) (record {
      from = count;
      from_two = omega arith;
      to_count = omega arith;
      under = under_one n tree.under (at count) (later_parts part count) hung.last_under;
      ends = inl hung.last;
    })))
    (λ ne. ⊎_elim
    (λ (b : IsBridged g count part at tree l). inl (record {
      from = l;
      from_two = two;
      to_count = le;
      under = under_one n tree.under (at l) (later_parts part l) b.under;
      ends = inr b.apart;
    }))
    (⊎_elim
    (λ (f : IsFollowed g count part at tree l). inr (record {
      from = l;
      to = l;
      is = refl;
      light = f.light;
      under = under_one n tree.under (at l) (parts_between part l l) (λ v a b. f.under v a b ∙ between_is_one g part l v a b);
      goes_on = inl f;
    }))
    (λ (t : IsTouching g count part at tree l). inr (record {
      from = l;
      to = l;
      is = refl;
      light = t.light;
      under = under_one n tree.under (at l) (parts_between part l l) (λ v a b. t.under v a b ∙ between_is_one g part l v a b);
      goes_on = inr t;
    })))
    (hung.each l two (omega arith)))
    (cases_eq l count)

start_shown : (g : Graph) (count : ℕ) (part : ℕ → ℕ) (at : ℕ → ℕ) (old : ℕ) (tree : TreeSets) → AreHung g count part at old tree →
    (i : ℕ) → IsPlaced g count part at tree i → AreShown g count part at tree i i
start_shown g count part at old tree hung i p =
    let l = p.number in
    ⊎_elim
    (λ (q : IsNodeOf g count part at tree i l). subst (λ (k : ℕ). AreShown g count part at tree k k) (sym q.is) (of_part g count part at old tree hung l p.from_two q.to_count))
    (λ (q : IsNodeAfter g count part at tree i l). subst (λ (k : ℕ). AreShown g count part at tree k k) (sym q.is) (inl (record {
      from = l + 1;
      from_two = omega (arith, p.from_two);
      to_count = omega (arith, q.below_count);
      under = under_one g.vertices tree.under (at l + 1) (later_parts part (l + 1)) q.touching.under_between;
      ends = inr (let e : at l + 2 ≡ at l + 1 + 1 = omega arith in subst (λ (k : ℕ). tree.follows k ≡ false) e q.touching.apart);
    })))
    p.place

-- an interval with all later parts added
whole_after : (g : Graph) (count : ℕ) (part : ℕ → ℕ) (tree : TreeSets) (first last a m : ℕ) → first ≤ last → 2 ≤ a → a ≤ m → m < count →
    IsUnder g.vertices tree.under first last (parts_between part a m) → SameOn g.vertices (tree.under (last + 1)) (later_parts part (m + 1)) →
    (last + 1 + 1 ≡ tree.count) ⊎ (tree.follows (last + 1 + 1) ≡ false) → AreWhole g count part tree first (last + 1)
whole_after g count part tree first last a m le two am lt under same ends = record {
  from = a;
  from_two = two;
  to_count = omega arith;
  under = under_after g.vertices tree.under first last (later_parts part a) (parts_between part a m) (later_parts part (m + 1)) under same le (λ v. between_later a m (part v) am);
  ends = ends;
}

next_shown : (g : Graph) (region : VertexSet) (t count : ℕ) (part : ℕ → ℕ) (at : ℕ → ℕ) (old : ℕ) (tree : TreeSets) → IsGraph g → IsRegionChain g region t count part →
    AreHung g count part at old tree → (first last : ℕ) → first ≤ last → last + 1 < tree.count → tree.follows (last + 1) ≡ true →
    AreShown g count part at tree first last → AreShown g count part at tree first (last + 1)
next_shown g region t count part at old tree ok ch hung first last le below follows shown =
    let n = g.vertices in
    ⊎_elim
    (λ (w : AreWhole g count part tree first last). ⊎_elim
    (λ (e : last + 1 ≡ tree.count). absurd (omega arith))
    (λ (e : tree.follows (last + 1) ≡ false). absurd (false≢true (sym e ∙ follows)))
    w.ends)
    (λ (o : AreOpen g count part at tree first last).
    let a = o.from in
    let m = o.to in
    let two = o.light.from_two in
    let am = o.light.ordered in
    let lt = o.light.below_count in
    ⊎_elim
    (λ (f : IsFollowed g count part at tree m).
    let here : last + 1 ≡ at (m + 1) = omega (arith, o.is, f.next) in
    ⊎_elim
    (λ (e : m + 1 ≡ count).
    let at_last : last + 1 ≡ at count = here ∙ ap at e in
    let same : SameOn n (tree.under (last + 1)) (later_parts part (m + 1)) =
    subst (λ (k : ℕ). SameOn n (tree.under (last + 1)) (later_parts part k)) (sym e) (subst (λ (k : ℕ). SameOn n (tree.under k) (later_parts part count)) (sym at_last) hung.last_under) in
    inl (whole_after g count part tree first last a m le two am lt o.under same (inl (omega (arith, hung.last, at_last)))))
    (λ ne. ⊎_elim
    (λ (b : IsBridged g count part at tree (m + 1)).
    inl (whole_after g count part tree first last a m le two am lt o.under
    (subst (λ (k : ℕ). SameOn n (tree.under k) (later_parts part (m + 1))) (sym here) b.under)
    (inr (subst (λ (k : ℕ). tree.follows (k + 1) ≡ false) (sym here) b.apart))))
    (λ (q : IsFollowed g count part at tree (m + 1) ⊎ IsTouching g count part at tree (m + 1)).
    let light : IsMinimumInterval g count part (m + 1) (m + 1) =
    ⊎_elim (λ (q : IsFollowed g count part at tree (m + 1)). q.light) (λ (q : IsTouching g count part at tree (m + 1)). q.light) q in
    let same = subst (λ (k : ℕ). SameOn n (tree.under k) (one_part part (m + 1))) (sym here) (alone_under g count part at old tree hung (m + 1) light) in
    inr (record {
      from = a;
      to = m + 1;
      is = here;
      light = joined_intervals g region t count part ok ch a m m (m + 1) o.light (f.pair light) am (omega arith) (omega arith);
      under = under_after n tree.under first last (parts_between part a (m + 1)) (parts_between part a m) (one_part part (m + 1)) o.under same le (λ v. between_one a m (part v) am);
      goes_on = q;
    }))
    (hung.each (m + 1) (omega arith) (omega (arith, lt, ne))))
    (cases_eq (m + 1) count))
    (λ (t : IsTouching g count part at tree m).
    let here : last + 1 ≡ at m + 1 = omega (arith, o.is) in
    let there : at m + 2 ≡ last + 1 + 1 = omega (arith, o.is) in
    inl (whole_after g count part tree first last a m le two am lt o.under
    (subst (λ (k : ℕ). SameOn n (tree.under k) (later_parts part (m + 1))) (sym here) t.under_between)
    (inr (subst (λ (k : ℕ). tree.follows k ≡ false) there t.apart))))
    o.goes_on)
    shown

shown_upto : (g : Graph) (region : VertexSet) (t count : ℕ) (part : ℕ → ℕ) (at : ℕ → ℕ) (old : ℕ) (tree : TreeSets) → IsGraph g → IsRegionChain g region t count part →
    AreHung g count part at old tree → (d first : ℕ) → first + d < tree.count → AreInCycle tree.follows first (first + d) → IsPlaced g count part at tree first →
    AreShown g count part at tree first (first + d)
shown_upto g region t count part at old tree ok ch hung zero first below cycle p =
    let e : first ≡ first + zero = omega arith in
    subst (λ (k : ℕ). AreShown g count part at tree first k) e (start_shown g count part at old tree hung first p)
shown_upto g region t count part at old tree ok ch hung (suc d) first below cycle p =
    let e : first + d + 1 ≡ first + suc d = omega arith in
    let rest = shown_upto g region t count part at old tree ok ch hung d first (omega arith) (λ i l u. cycle i l (omega arith)) p in
    subst (λ (k : ℕ). AreShown g count part at tree first k) e
    (next_shown g region t count part at old tree ok ch hung first (first + d) (omega arith) (omega arith) (cycle (first + d + 1) (omega arith) (omega arith)) rest)

pub hanging : LawOfHanging
hanging g region t count part at old tree ok ch hung one x =
    let n = g.vertices in
    let two : 2 ≤ count = ch.numbered.two in (
      λ h. ⊎_elim
          (λ (p : IsLaterParts n count part x).
          let i = p.first in
          let r = tail g count part at old tree hung (count - i) i (omega (arith, p.to_count)) p.from_two in
          let low = old_le_at g count part at old tree hung i p.from_two p.to_count in (
            record {
              first = at i;
              last = r.last;
              from_one = omega (arith, low);
              ordered = r.ordered;
              below_count = r.below_count;
              in_cycle = r.in_cycle;
              under = under_agree n tree.under (at i) r.last x (later_parts part i) p.same r.under;
            },
            low,
          ))
          (λ (p : IsLightInterval g count part x).
          let a = p.first in
          let b = p.last in
          let low = old_le_at g count part at old tree hung a p.light.from_two (omega (arith, p.light.ordered, p.light.below_count)) in
          let e : a + (b - a) ≡ b = omega (arith, p.light.ordered) in
          let r : IsRun n tree (at a) (at b) (parts_between part a b) = subst (λ (k : ℕ). IsRun n tree (at a) (at k) (parts_between part a k)) e
          (run g region t count part at old tree ok ch hung (b - a) a (subst (λ (k : ℕ). IsMinimumInterval g count part a k) (sym e) p.light)) in
          let r' = tail g count part at old tree hung (count - b) b (omega (arith, p.light.below_count)) (omega (arith, p.light.from_two, p.light.ordered)) in (
            record {
              first = at a;
              last = at b;
              from_one = omega (arith, low);
              ordered = r.ordered;
              below_count = omega (arith, r'.ordered, r'.below_count);
              in_cycle = r.in_cycle;
              under = under_agree n tree.under (at a) (at b) x (parts_between part a b) p.same r.under;
            },
            low,
          ))
          h,
      λ h.
          let s = h.0 in
          let d = s.last - s.first in
          let e : s.first + d ≡ s.last = omega (arith, s.ordered) in
          let from : at 2 ≤ s.first = omega (arith, hung.first, h.1) in
          let p = placed g count part at old tree hung (count - 2) 2 s.first (omega arith) (omega arith) from (omega (arith, s.ordered, s.below_count)) in
          let shown : AreShown g count part at tree s.first s.last = subst (λ (k : ℕ). AreShown g count part at tree s.first k) e
          (shown_upto g region t count part at old tree ok ch hung d s.first (omega (arith, s.below_count)) (subst (λ (k : ℕ). AreInCycle tree.follows s.first k) (sym e) s.in_cycle) p) in
          ⊎_elim
          (λ (w : AreWhole g count part tree s.first s.last). inl (record {
            first = w.from;
            from_two = w.from_two;
            to_count = w.to_count;
            same = under_same n tree.under s.first s.last x (later_parts part w.from) s.under w.under;
          }))
          (λ (o : AreOpen g count part at tree s.first s.last). inr (record {
            first = o.from;
            last = o.to;
            light = o.light;
            same = under_same n tree.under s.first s.last x (parts_between part o.from o.to) s.under o.under;
          }))
          shown,
    )
