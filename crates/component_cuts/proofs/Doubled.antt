-- The unions of the first parts, which double with each further part.
use Rattle.std.proofs.Common.{◌≡◌, ℕ, zero, suc, ◌+◌, ◌-◌, ◌^◌, ◌≤◌, ◌⊎◌, inl, inr, ⊎_elim, Bool, true, false, not, ◌&&◌, ◌||◌, List, [], ◌∷◌, ◌++◌, length, length-append, map, refl, sym, ◌∙◌, ap, subst, arith}
use Rattle.std.specs.Prelude.{◌≢◌}
use Rattle.std.specs.Ordering.{nat_cmp}
use Rattle.std.specs.Cmp.Lexicographic.{slice_cmp}
use Rattle.std.specs.List.{Contains, filter, list_all, range_with_len}
use Rattle.std.proofs.Math.Nat.{pow-suc}
use Rattle.std.proofs.lemmas.Bool.{cases_Bool, false≢true, or_left, or_right, or_cases}
use Rattle.std.proofs.lemmas.List.{length-map}
use Rattle.std.proofs.lemmas.List.Elements.{Contains-append_left, Contains-append_right, Contains-append_cases}
use Rattle.std.proofs.lemmas.List.Kept.{IsStrictlySortedBy-filter}
use Rattle.std.proofs.lemmas.List.Sums.{AllPass-from_list_all, list_all-from_AllPass}
use Rattle.std.proofs.lemmas.Cmp.{nat_list_cmp_total}
use Rattle.std.proofs.lemmas.Map.Lookups.{exact_bytes}
use Rattle.cut_definitions.specs.Weight.{either}
use Rattle.cut_definitions.specs.Cuts.{has, least, sides, IsAscendingWithin, IsSide}
use Rattle.cut_definitions.proofs.Lists.{Contains-here, Contains-nil, Contains-cons_cases, Contains-map, Contains-from_map, Contains-filter, Contains-from_filter}
use Rattle.cut_definitions.proofs.Sides.{IsAscendingWithin-lower, IsSide-from_Contains, Contains-from_IsSide}
use Rattle.cut_definitions.proofs.Bridge.{has_none, has_low, has_within, same_ascending, IsAscendingWithin-filter}
use Rattle.cut_definitions.proofs.Order.{sides_sorted}
use Rattle.cut_definitions.proofs.Bools.{in_minus, minus_first, minus_second, put_back, same_tests, minus_same, or_same}
use Rattle.cut_definitions.proofs.Ascending.{least_has, member_within}
use Rattle.cut_definitions.proofs.Orderings.{one_listed}
use Rattle.component_cuts.specs.Parts.{Parts, part_at, keeps, unions, IsPart, IsDivision}
use Rattle.component_cuts.specs.Doubling.{union_of}
use Rattle.cut_definitions.specs.Members.{AreDifferent, IsAscending}
use Rattle.component_cuts.specs.Laws.{LawOfNumber}
use Rattle.component_cuts.proofs.Weightless.{all_parts, one_part, keeps_two, keeps_from, first_has_one, ascending_from_two, all_unions}
use Rattle.component_cuts.proofs.Different.{different_append, different_map, different_ascending, no_more}

-- a nonempty union of the parts 2 to k
pub record IsUnionTo (p : Parts) (k : ℕ) (s : List ℕ) : Type 0 where
  pub nonempty : s ≢ []
  pub ascending : IsAscendingWithin 1 p.vertices s
  pub kept : (i u v : ℕ) → IsPart p i → has (part_at p i) u ≡ true → has (part_at p i) v ≡ true → has s u ≡ has s v
  pub inside : (i v : ℕ) → IsPart p i → has (part_at p i) v ≡ true → has s v ≡ true → (2 ≤ i) × (i ≤ k)

-- the nonempty unions of the parts 2 to k, each once
pub record AreUnionsTo (p : Parts) (k : ℕ) (list : List (List ℕ)) : Type 0 where
  pub counted : length list + 1 ≡ 2 ^ (k - 1)
  pub different : AreDifferent list
  pub each : (s : List ℕ) → Contains list s → IsUnionTo p k s
  pub all : (s : List ℕ) → IsUnionTo p k s → Contains list s

some_member : (s : List ℕ) → (s ≡ []) ⊎ (s ≢ [])
some_member [] = inl refl
some_member (x ∷ xs) = inr (λ e. cc)

take_off : (q a b : Bool) → (q ≡ true → a ≡ b) → (q || a) ≡ (q || b) → a ≡ b
take_off true a b h e = h refl
take_off false a b h e = e

-- ---- a part and its members

-- members of a part are vertices
pub part_within : (p : Parts) → IsDivision p → (i v : ℕ) → IsPart p i → has (part_at p i) v ≡ true → (1 ≤ v) × (v ≤ p.vertices)
part_within p h i v is a = member_within 1 p.vertices v (part_at p i) (h.ascending i is) a

pub part_kept : (p : Parts) → IsDivision p → (q i u v : ℕ) → IsPart p q → IsPart p i → has (part_at p i) u ≡ true → has (part_at p i) v ≡ true → has (part_at p q) u ≡ has (part_at p q) v
part_kept p h q i u v qs is a b =
    same_tests (has (part_at p q) u) (has (part_at p q) v)
    (λ t. subst (λ (j : ℕ). has (part_at p j) v ≡ true) (h.apart i q u is qs a t) b)
    (λ t. subst (λ (j : ℕ). has (part_at p j) u ≡ true) (h.apart i q v is qs b t) a)

has_union : (n : ℕ) (q t : List ℕ) (v : ℕ) → 1 ≤ v → v ≤ n → has (union_of n q t) v ≡ (has q v || has t v)
has_union n q t v one to = has_within n 1 v (either (has q) (has t)) one (omega arith)

union_ascends : (n : ℕ) (q t : List ℕ) → IsAscendingWithin 1 n (union_of n q t)
union_ascends n q t = IsAscendingWithin-filter n 1 n (either (has q) (has t)) (omega arith)

-- ---- one part more

wider : (p : Parts) (k : ℕ) (s : List ℕ) → IsUnionTo p k s → IsUnionTo p (k + 1) s
wider p k s h = record {
  nonempty = h.nonempty;
  ascending = h.ascending;
  kept = h.kept;
  inside = λ i v is a b. let w = h.inside i v is a b in let low : 2 ≤ i = w.0 in (low, omega (arith, w.1));
}

alone : (p : Parts) → IsDivision p → (k : ℕ) → 1 ≤ k → IsPart p (k + 1) → IsUnionTo p (k + 1) (part_at p (k + 1))
alone p h k one qs = record {
  nonempty = h.nonempty (k + 1) qs;
  ascending = h.ascending (k + 1) qs;
  kept = λ i u v is a b. part_kept p h (k + 1) i u v qs is a b;
  inside = λ i v is a b. let e : i ≡ k + 1 = h.apart i (k + 1) v is qs a b in (omega arith, omega arith);
}

together : (p : Parts) → IsDivision p → (k : ℕ) → 1 ≤ k → IsPart p (k + 1) → (t : List ℕ) → IsUnionTo p k t → IsUnionTo p (k + 1) (union_of p.vertices (part_at p (k + 1)) t)
together p h k one qs t is_t =
    let n = p.vertices in
    let q = part_at p (k + 1) in
    let first = least_has q (h.nonempty (k + 1) qs) in
    let w = part_within p h (k + 1) (least q) qs first in
    record {
      nonempty = λ e. has_none (union_of n q t) (least q) e (has_union n q t (least q) w.0 w.1 ∙ or_left (has q (least q)) (has t (least q)) first);
      ascending = union_ascends n q t;
      kept = λ i u v is a b.
          let wu = part_within p h i u is a in
          let wv = part_within p h i v is b in
          has_union n q t u wu.0 wu.1
          ∙ (or_same (has q u) (has t u) (has q v) (has t v) (part_kept p h (k + 1) i u v qs is a b) (is_t.kept i u v is a b) ∙ sym (has_union n q t v wv.0 wv.1));
      inside = λ i v is a b.
          let wv = part_within p h i v is a in
          ⊎_elim
          (λ in_q. let e : i ≡ k + 1 = h.apart i (k + 1) v is qs a in_q in let r : (2 ≤ i) × (i ≤ k + 1) = (omega arith, omega arith) in r)
          (λ in_t. let z = is_t.inside i v is a in_t in let low : 2 ≤ i = z.0 in let r : (2 ≤ i) × (i ≤ k + 1) = (low, omega (arith, z.1)) in r)
          (or_cases (has q v) (has t v) (sym (has_union n q t v wv.0 wv.1) ∙ b));
    }

-- what is left of a union without its last part
abbrev without : Parts → ℕ → List ℕ → List ℕ
without p k s = filter (λ v. has s v && not (has (part_at p (k + 1)) v)) (range_with_len 1 p.vertices)

has_without : (p : Parts) (k : ℕ) (s : List ℕ) (v : ℕ) → 1 ≤ v → v ≤ p.vertices → has (without p k s) v ≡ (has s v && not (has (part_at p (k + 1)) v))
has_without p k s v one to = has_within p.vertices 1 v (λ u. has s u && not (has (part_at p (k + 1)) u)) one (omega arith)

without_ascends : (p : Parts) (k : ℕ) (s : List ℕ) → IsAscendingWithin 1 p.vertices (without p k s)
without_ascends p k s = IsAscendingWithin-filter p.vertices 1 p.vertices (λ v. has s v && not (has (part_at p (k + 1)) v)) (omega arith)

rest_is_union : (p : Parts) → IsDivision p → (k : ℕ) → IsPart p (k + 1) → (s : List ℕ) → IsUnionTo p (k + 1) s → without p k s ≢ [] → IsUnionTo p k (without p k s)
rest_is_union p h k qs s is_s ne =
    let q = part_at p (k + 1) in
    record {
      nonempty = ne;
      ascending = without_ascends p k s;
      kept = λ i u v is a b.
          let wu = part_within p h i u is a in
          let wv = part_within p h i v is b in
          has_without p k s u wu.0 wu.1
          ∙ (minus_same (has s u) (has q u) (has s v) (has q v) (is_s.kept i u v is a b) (part_kept p h (k + 1) i u v qs is a b) ∙ sym (has_without p k s v wv.0 wv.1));
      inside = λ i v is a b.
          let wv = part_within p h i v is a in
          let both = sym (has_without p k s v wv.0 wv.1) ∙ b in
          let z = is_s.inside i v is a (minus_first (has s v) (has q v) both) in
          let low : 2 ≤ i = z.0 in
          let other : i ≢ k + 1 = λ e. false≢true (sym (minus_second (has s v) (has q v) both) ∙ subst (λ (j : ℕ). has (part_at p j) v ≡ true) e a) in
          (low, omega (arith, z.1));
    }

-- a union with the last part has all of it
has_last : (p : Parts) → IsDivision p → (k : ℕ) → IsPart p (k + 1) → (s : List ℕ) → IsUnionTo p (k + 1) s → has s (least (part_at p (k + 1))) ≡ true → (v : ℕ) → has (part_at p (k + 1)) v ≡ true → has s v ≡ true
has_last p h k qs s is_s is v a =
    is_s.kept (k + 1) v (least (part_at p (k + 1))) qs a (least_has (part_at p (k + 1)) (h.nonempty (k + 1) qs)) ∙ is

doubled_list : Parts → ℕ → List (List ℕ) → List (List ℕ)
doubled_list p k list = list ++ (map (union_of p.vertices (part_at p (k + 1))) list ++ part_at p (k + 1) ∷ [])

with_last : (p : Parts) → IsDivision p → (k : ℕ) → IsPart p (k + 1) → (list : List (List ℕ)) → AreUnionsTo p k list → (s : List ℕ) → IsUnionTo p (k + 1) s → has s (least (part_at p (k + 1))) ≡ true →
    Contains (map (union_of p.vertices (part_at p (k + 1))) list ++ part_at p (k + 1) ∷ []) s
with_last p h k qs list are s is_s is =
    let n = p.vertices in
    let q = part_at p (k + 1) in
    let f = union_of n q in
    let t = without p k s in
    ⊎_elim
    (λ (none : t ≡ []).
    let same : q ≡ s = same_ascending 1 n q s (h.ascending (k + 1) qs) is_s.ascending
    (λ v one to. same_tests (has q v) (has s v) (has_last p h k qs s is_s is v)
    (λ b. ⊎_elim
    (λ (y : has q v ≡ true). y)
    (λ (x : has q v ≡ false). absurd (has_none t v none (has_without p k s v one to ∙ in_minus (has s v) (has q v) b x)))
    (cases_Bool (has q v)))) in
    Contains-append_right (map f list) (q ∷ []) s (subst (Contains (q ∷ [])) same (Contains-here q [])))
    (λ (some : t ≢ []).
    let same : f t ≡ s = same_ascending 1 n (f t) s (union_ascends n q t) is_s.ascending
    (λ v one to. has_union n q t v one to
    ∙ (ap (λ (b : Bool). has q v || b) (has_without p k s v one to) ∙ put_back (has q v) (has s v) (has_last p h k qs s is_s is v))) in
    Contains-append_left (map f list) (q ∷ []) s (subst (Contains (map f list)) same (Contains-map f list t (are.all t (rest_is_union p h k qs s is_s some)))))
    (some_member t)

-- a union of the first parts has no vertex of the next one
lacks_next : (p : Parts) → IsDivision p → (k : ℕ) → IsPart p (k + 1) → (s : List ℕ) → IsUnionTo p k s → (v : ℕ) → has (part_at p (k + 1)) v ≡ true → has s v ≡ true → ⊥
lacks_next p h k qs s is_s v a b = absurd (omega (arith, (is_s.inside (k + 1) v qs a b).1))

narrower : (p : Parts) → IsDivision p → (k : ℕ) → IsPart p (k + 1) → (s : List ℕ) → IsUnionTo p (k + 1) s → has s (least (part_at p (k + 1))) ≡ false → IsUnionTo p k s
narrower p h k qs s is_s out = record {
  nonempty = is_s.nonempty;
  ascending = is_s.ascending;
  kept = is_s.kept;
  inside = λ i v is a b.
      let z = is_s.inside i v is a b in
      let low : 2 ≤ i = z.0 in
      let other : i ≢ k + 1 = λ e. false≢true (sym out
      ∙ (is_s.kept (k + 1) (least (part_at p (k + 1))) v qs (least_has (part_at p (k + 1)) (h.nonempty (k + 1) qs)) (subst (λ (j : ℕ). has (part_at p j) v ≡ true) e a) ∙ b)) in
      (low, omega (arith, z.1));
}

each_doubled : (p : Parts) → IsDivision p → (k : ℕ) → 1 ≤ k → IsPart p (k + 1) → (list : List (List ℕ)) → AreUnionsTo p k list → (s : List ℕ) → Contains (doubled_list p k list) s → IsUnionTo p (k + 1) s
unfolding doubled_list
each_doubled p h k one qs list are s c =
    let q = part_at p (k + 1) in
    let f = union_of p.vertices q in
    elim (Contains-append_cases list (map f list ++ q ∷ []) s c) [
      | inl a ↦ wider p k s (are.each s a)
      | inr b ↦ elim (Contains-append_cases (map f list) (q ∷ []) s b) [
        | inl d ↦ (let t = Contains-from_map f list s d in subst (IsUnionTo p (k + 1)) t.2 (together p h k one qs t.0 (are.each t.0 t.1)))
        | inr d ↦ elim (Contains-cons_cases q [] s d) [ inl e ↦ subst (IsUnionTo p (k + 1)) e (alone p h k one qs) | inr z ↦ absurd (Contains-nil s z) ]
      ]
    ]

all_doubled : (p : Parts) → IsDivision p → (k : ℕ) → IsPart p (k + 1) → (list : List (List ℕ)) → AreUnionsTo p k list → (s : List ℕ) → IsUnionTo p (k + 1) s → Contains (doubled_list p k list) s
unfolding doubled_list
all_doubled p h k qs list are s is_s =
    let q = part_at p (k + 1) in
    let f = union_of p.vertices q in
    ⊎_elim
    (λ (is : has s (least q) ≡ true). Contains-append_right list (map f list ++ q ∷ []) s (with_last p h k qs list are s is_s is))
    (λ (out : has s (least q) ≡ false). Contains-append_left list (map f list ++ q ∷ []) s (are.all s (narrower p h k qs s is_s out)))
    (cases_Bool (has s (least q)))

union_tells : (p : Parts) → IsDivision p → (k : ℕ) → IsPart p (k + 1) → (s t : List ℕ) → IsUnionTo p k s → IsUnionTo p k t → union_of p.vertices (part_at p (k + 1)) s ≡ union_of p.vertices (part_at p (k + 1)) t → s ≡ t
union_tells p h k qs s t is_s is_t e =
    let n = p.vertices in
    let q = part_at p (k + 1) in
    same_ascending 1 n s t is_s.ascending is_t.ascending
    (λ v one to. take_off (has q v) (has s v) (has t v)
    (λ a. same_tests (has s v) (has t v) (λ b. absurd (lacks_next p h k qs s is_s v a b)) (λ b. absurd (lacks_next p h k qs t is_t v a b)))
    (sym (has_union n q s v one to) ∙ (ap (λ (xs : List ℕ). has xs v) e ∙ has_union n q t v one to)))

-- a union with the last part is not that part
union_is_more : (p : Parts) → IsDivision p → (k : ℕ) → IsPart p (k + 1) → (t : List ℕ) → IsUnionTo p k t → union_of p.vertices (part_at p (k + 1)) t ≡ part_at p (k + 1) → ⊥
union_is_more p h k qs t is_t e =
    let n = p.vertices in
    let q = part_at p (k + 1) in
    let own = least_has t is_t.nonempty in
    let w = member_within 1 n (least t) t is_t.ascending own in
    let in_q : has q (least t) ≡ true = ap (λ (xs : List ℕ). has xs (least t)) (sym e) ∙ (has_union n q t (least t) w.0 w.1 ∙ or_right (has q (least t)) (has t (least t)) own) in
    lacks_next p h k qs t is_t (least t) in_q own

different_doubled : (p : Parts) → IsDivision p → (k : ℕ) → IsPart p (k + 1) → (list : List (List ℕ)) → AreUnionsTo p k list → AreDifferent (doubled_list p k list)
unfolding doubled_list
different_doubled p h k qs list are =
    let n = p.vertices in
    let q = part_at p (k + 1) in
    let f = union_of n q in
    let first = least_has q (h.nonempty (k + 1) qs) in
    let w = part_within p h (k + 1) (least q) qs first in
    different_append list (map f list ++ q ∷ []) are.different
    (different_append (map f list) (q ∷ [])
    (different_map f list (λ s t a b e. union_tells p h k qs s t (are.each s a) (are.each t b) e) are.different)
    ((λ c. Contains-nil q c), tt)
    (λ s a b. let t = Contains-from_map f list s a in
    elim (Contains-cons_cases q [] s b) [ inl e ↦ union_is_more p h k qs t.0 (are.each t.0 t.1) (t.2 ∙ sym e) | inr z ↦ Contains-nil s z ]))
    (λ s a b.
    let out = λ (yes : has s (least q) ≡ true). lacks_next p h k qs s (are.each s a) (least q) first yes in
    elim (Contains-append_cases (map f list) (q ∷ []) s b) [
      | inl d ↦ (
          let t = Contains-from_map f list s d in
          out (ap (λ (xs : List ℕ). has xs (least q)) (sym t.2) ∙ (has_union n q t.0 (least q) w.0 w.1 ∙ or_left (has q (least q)) (has t.0 (least q)) first)))
      | inr d ↦ elim (Contains-cons_cases q [] s d) [ inl e ↦ out (ap (λ (xs : List ℕ). has xs (least q)) (sym e) ∙ first) | inr z ↦ Contains-nil s z ]
    ])

counted_doubled : (p : Parts) (k : ℕ) → 1 ≤ k → (list : List (List ℕ)) → length list + 1 ≡ 2 ^ (k - 1) → length (doubled_list p k list) + 1 ≡ 2 ^ ((k + 1) - 1)
unfolding doubled_list
counted_doubled p k one list e =
    let q = part_at p (k + 1) in
    let f = union_of p.vertices q in
    let next : (k + 1) - 1 ≡ suc (k - 1) = omega arith in
    let twice : length (list ++ (map f list ++ q ∷ [])) + 1 ≡ 2 ^ suc (k - 1) =
    omega (arith, pow-suc 2 (k - 1), length-append list (map f list ++ q ∷ []), length-append (map f list) (q ∷ []), length-map list f) in
    twice ∙ ap (λ (m : ℕ). 2 ^ m) (sym next)

pub unions_start : (p : Parts) → IsDivision p → AreUnionsTo p 1 []
unions_start p h = record {
  counted = refl;
  different = tt;
  each = λ s c. absurd (Contains-nil s c);
  all = λ s is.
      let own = least_has s is.nonempty in
      let w = member_within 1 p.vertices (least s) s is.ascending own in
      let c = h.covered (least s) w.0 w.1 in
      let z = is.inside c.0 (least s) c.1 c.2 own in
      absurd (omega (arith, z.0, z.1));
}

pub unions_step : (p : Parts) → IsDivision p → (k : ℕ) → 1 ≤ k → k + 1 ≤ length p.parts → (list next : List (List ℕ)) → AreUnionsTo p k list →
    next ≡ list ++ (map (union_of p.vertices (part_at p (k + 1))) list ++ part_at p (k + 1) ∷ []) → AreUnionsTo p (k + 1) next
unfolding doubled_list
unions_step p h k one to list next are e =
    let qs : IsPart p (k + 1) = (let l : 1 ≤ k + 1 = omega arith in l, to) in
    subst (AreUnionsTo p (k + 1)) (sym e) (record {
      counted = counted_doubled p k one list are.counted;
      different = different_doubled p h k qs list are;
      each = each_doubled p h k one qs list are;
      all = all_doubled p h k qs list are;
    })

-- ---- all parts

pub union_from : (p : Parts) → IsDivision p → (s : List ℕ) → Contains (unions p) s → IsUnionTo p (length p.parts) s
unfolding unions
union_from p h s c =
    let r = Contains-from_filter (λ side. list_all (keeps side) p.parts) (sides p.vertices) s c in
    let side = IsSide-from_Contains p.vertices s r.0 in
    let kept = λ (i u v : ℕ) (is : IsPart p i) (a : has (part_at p i) u ≡ true) (b : has (part_at p i) v ≡ true).
    keeps_two s (part_at p i) u v (one_part p (λ part. keeps s part ≡ true) (AllPass-from_list_all (keeps s) p.parts r.1) i is) a b in
    record {
      nonempty = side.nonempty;
      ascending = IsAscendingWithin-lower 1 p.vertices s side.ascending;
      kept = kept;
      inside = λ i v is a b.
          let w = part_within p h i v is a in
          let to : i ≤ length p.parts = is.1 in
          let c1 = h.covered 1 (omega arith) (omega (arith, w.0, w.1)) in
          let one : c1.0 ≡ 1 = first_has_one p h c1.0 c1.1 c1.2 in
          let other : i ≢ 1 = λ e. false≢true (sym (has_low 2 p.vertices 1 s side.ascending (omega arith))
          ∙ (kept i 1 v is (subst (λ (j : ℕ). has (part_at p j) 1 ≡ true) (one ∙ sym e) c1.2) a ∙ b)) in
          (omega (arith, is.0), to);
    }

pub union_to : (p : Parts) → IsDivision p → (s : List ℕ) → IsUnionTo p (length p.parts) s → Contains (unions p) s
unfolding unions
union_to p h s is =
    let out : has s 1 ≡ false = ⊎_elim
    (λ (t : has s 1 ≡ true).
    let w = member_within 1 p.vertices 1 s is.ascending t in
    let c = h.covered 1 w.0 w.1 in
    absurd (omega (arith, first_has_one p h c.0 c.1 c.2, (is.inside c.0 1 c.1 c.2 t).0)))
    (λ (f : has s 1 ≡ false). f)
    (cases_Bool (has s 1)) in
    let side : IsSide p.vertices s = record { nonempty = is.nonempty; ascending = ascending_from_two p.vertices s is.ascending out } in
    Contains-filter (λ side. list_all (keeps side) p.parts) (sides p.vertices) s (Contains-from_IsSide p.vertices s side)
    (list_all-from_AllPass (keeps s) p.parts (all_parts p (λ part. keeps s part ≡ true) (λ i part.
    keeps_from s (part_at p i) (least (part_at p i)) (λ v a. is.kept i v (least (part_at p i)) part a (least_has (part_at p i) (h.nonempty i part))))))

pub unions_ascend : (p : Parts) → IsAscending (unions p)
unfolding unions
unions_ascend p = IsStrictlySortedBy-filter (slice_cmp nat_cmp) (λ side. list_all (keeps side) p.parts) (sides p.vertices) (sides_sorted p.vertices)

-- all unions in the order of lists are the list
pub unions_sorted : (p : Parts) → IsDivision p → (list sorted : List (List ℕ)) → AreUnionsTo p (length p.parts) list → IsAscending sorted →
    ((s : List ℕ) → Contains sorted s → Contains list s) → ((s : List ℕ) → Contains list s → Contains sorted s) → sorted ≡ unions p
unions_sorted p h list sorted are up to from =
    one_listed nat_list_cmp_total exact_bytes sorted (unions p) up (unions_ascend p) (λ s. ((λ c. union_to p h s (are.each s (to s c))), (λ c. from s (are.all s (union_from p h s c)))))

some_list : (p : Parts) → IsDivision p → (m : ℕ) → m + 1 ≤ length p.parts → (list : List (List ℕ)) × AreUnionsTo p (m + 1) list
some_list p h zero le = ([], unions_start p h)
some_list p h (suc m) le =
    let r = some_list p h m (omega arith) in
    let next = r.0 ++ (map (union_of p.vertices (part_at p (m + 1 + 1))) r.0 ++ part_at p (m + 1 + 1) ∷ []) in
    let same : m + 1 + 1 ≡ suc m + 1 = omega arith in
    (next, subst (λ (k : ℕ). AreUnionsTo p k next) same (unions_step p h (m + 1) (omega arith) (omega arith) r.0 next r.1 refl))

pub number_of_unions : (p : Parts) → IsDivision p → 1 ≤ length p.parts → length (unions p) + 1 ≡ 2 ^ (length p.parts - 1)
number_of_unions p h one =
    let c = length p.parts in
    let some = some_list p h (c - 1) (omega arith) in
    let same : c - 1 + 1 ≡ c = omega arith in
    let are : AreUnionsTo p c some.0 = subst (λ (k : ℕ). AreUnionsTo p k some.0) same some.1 in
    omega (
      arith,
      are.counted,
      no_more some.0 (unions p) are.different (λ s a. union_to p h s (are.each s a)),
      no_more (unions p) some.0 (different_ascending (unions p) (unions_ascend p)) (λ s a. are.all s (union_from p h s a)),
    )

pub law_of_number : LawOfNumber
law_of_number g p ok h two =
    omega (arith, ap (λ (xs : List (List ℕ)). length xs) (all_unions g ok p h two), number_of_unions p h.division (omega arith))
