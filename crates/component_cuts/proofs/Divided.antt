-- A numbering of the vertices divides them.
use Rattle.std.proofs.Common.{◌≡◌, ℕ, ◌-◌, ◌<◌, ◌≤◌, ⊎_elim, true, eqb, List, [], length, get_or, refl, sym, ◌∙◌, ap, subst, arith}
use Rattle.std.specs.Prelude.{◌≢◌}
use Rattle.std.proofs.lemmas.Bool.{cases_eq, cases_lt, eq-eqb, eqb-true}
use Rattle.std.proofs.lemmas.List.FromFn.{get_or-map-range_with_len, length-map-range_with_len}
use Rattle.cut_definitions.specs.Cuts.{has, least, IsAscendingWithin}
use Rattle.cut_definitions.proofs.Values.{least-le}
use Rattle.cut_definitions.proofs.Bridge.{has_none, has_within, IsAscendingWithin-filter}
use Rattle.cut_definitions.proofs.Ascending.{has_contains, member_within, least_has}
use Rattle.component_cuts.specs.Parts.{part_at, IsPart, IsDivision, IsFirst, IsNumbering, numbered, divided}

-- ---- members of lists

pub least_most : (xs : List ℕ) (v : ℕ) → has xs v ≡ true → least xs ≤ v
least_most xs v h = least-le xs v (has_contains xs v h)

-- ---- the parts of a numbering

pub length_divided : (n count : ℕ) (part_of : List ℕ) → length (divided n count part_of).parts ≡ count
length_divided n count part_of = length-map-range_with_len (numbered n part_of) 1 count

pub part_divided : (n count : ℕ) (part_of : List ℕ) (i : ℕ) → 1 ≤ i → i ≤ count → part_at (divided n count part_of) i ≡ numbered n part_of i
part_divided n count part_of i one to = get_or-map-range_with_len (numbered n part_of) 1 count (i - 1) i [] (omega arith) (omega arith)

numbered_ascends : (n : ℕ) (part_of : List ℕ) (i : ℕ) → IsAscendingWithin 1 n (numbered n part_of i)
numbered_ascends n part_of i = IsAscendingWithin-filter n 1 n (λ v. eqb (get_or part_of v 0) i) (omega arith)

in_numbered : (n : ℕ) (part_of : List ℕ) (i v : ℕ) → has (numbered n part_of i) v ≡ true → (1 ≤ v) × (v ≤ n) × (get_or part_of v 0 ≡ i)
in_numbered n part_of i v is =
    let w = member_within 1 n v (numbered n part_of i) (numbered_ascends n part_of i) is in
    let one : 1 ≤ v = w.0 in
    let to : v ≤ n = w.1 in
    (one, to, eqb-true (get_or part_of v 0) i (sym (has_within n 1 v (λ u. eqb (get_or part_of u 0) i) one (omega arith)) ∙ is))

to_numbered : (n : ℕ) (part_of : List ℕ) (i v : ℕ) → 1 ≤ v → v ≤ n → get_or part_of v 0 ≡ i → has (numbered n part_of i) v ≡ true
to_numbered n part_of i v one to e = has_within n 1 v (λ u. eqb (get_or part_of u 0) i) one (omega arith) ∙ eq-eqb (get_or part_of v 0) i e

-- a number of a part is one of 1 to `count`
pub part_number : (n count : ℕ) (part_of : List ℕ) (i : ℕ) → IsPart (divided n count part_of) i → (1 ≤ i) × (i ≤ count)
part_number n count part_of i h = let one : 1 ≤ i = h.0 in (one, omega (arith, length_divided n count part_of, h.1))

pub in_part : (n count : ℕ) (part_of : List ℕ) (i v : ℕ) → IsPart (divided n count part_of) i → has (part_at (divided n count part_of) i) v ≡ true → (1 ≤ v) × (v ≤ n) × (get_or part_of v 0 ≡ i)
in_part n count part_of i v h is =
    let k = part_number n count part_of i h in
    in_numbered n part_of i v (subst (λ (xs : List ℕ). has xs v ≡ true) (part_divided n count part_of i k.0 k.1) is)

pub to_part : (n count : ℕ) (part_of : List ℕ) (v : ℕ) → IsNumbering n count part_of → 1 ≤ v → v ≤ n → IsPart (divided n count part_of) (get_or part_of v 0) × (has (part_at (divided n count part_of) (get_or part_of v 0)) v ≡ true)
to_part n count part_of v h one to =
    let i = get_or part_of v 0 in
    let low : 1 ≤ i = h.from_one v one to in
    let high : i ≤ count = h.to_count v in
    ((low, omega (arith, length_divided n count part_of)), subst (λ (xs : List ℕ). has xs v ≡ true) (sym (part_divided n count part_of i low high)) (to_numbered n part_of i v one to refl))

-- the first vertex of a number is the least of its part
least_first : (n count : ℕ) (part_of : List ℕ) (i v : ℕ) → 1 ≤ i → i ≤ count → IsFirst n part_of i v → least (part_at (divided n count part_of) i) ≡ v
least_first n count part_of i v one to h =
    let s = numbered n part_of i in
    let there : has s v ≡ true = to_numbered n part_of i v h.from_one h.to_n h.is_of in
    let most : least s ≤ v = least_most s v there in
    let some : s ≢ [] = λ e. has_none s v e there in
    let own = in_numbered n part_of i (least s) (least_has s some) in
    let own_one : 1 ≤ least s = own.0 in
    let own_is : get_or part_of (least s) 0 ≡ i = own.2 in
    let equal : least s ≡ v = ⊎_elim
    (λ (l : least s < v). let less : get_or part_of (least s) 0 < i = h.lesser (least s) own_one l in absurd (omega arith))
    (λ (l : v ≤ least s). let q : least s ≡ v = omega arith in q)
    (cases_lt (least s) v) in
    ap least (part_divided n count part_of i one to) ∙ equal

first_before : (n : ℕ) (part_of : List ℕ) (i j v w : ℕ) → i < j → IsFirst n part_of i v → IsFirst n part_of j w → v < w
first_before n part_of i j v w l hv hw =
    let vi : get_or part_of v 0 ≡ i = hv.is_of in
    let wj : get_or part_of w 0 ≡ j = hw.is_of in
    ⊎_elim
    (λ (lt : v < w). lt)
    (λ (le : w ≤ v). ⊎_elim
    (λ (e : w ≡ v). let same : get_or part_of w 0 ≡ get_or part_of v 0 = ap (λ (u : ℕ). get_or part_of u 0) e in absurd (omega arith))
    (λ (ne : w ≢ v). let less : get_or part_of w 0 < i = hv.lesser w hw.from_one (omega arith) in absurd (omega arith))
    (cases_eq w v))
    (cases_lt v w)

pub numbering_divides : (n count : ℕ) (part_of : List ℕ) → IsNumbering n count part_of → IsDivision (divided n count part_of)
numbering_divides n count part_of h = record {
  nonempty = λ i is e.
      let k = part_number n count part_of i is in
      let f = h.first i k.0 k.1 in
      has_none (numbered n part_of i) f.0 (sym (part_divided n count part_of i k.0 k.1) ∙ e) (to_numbered n part_of i f.0 f.1.from_one f.1.to_n f.1.is_of);
  ascending = λ i is.
      let k = part_number n count part_of i is in
      subst (IsAscendingWithin 1 n) (sym (part_divided n count part_of i k.0 k.1)) (numbered_ascends n part_of i);
  covered = λ v one to. let p = to_part n count part_of v h one to in (get_or part_of v 0, p.0, p.1);
  apart = λ i j v is js a b. sym (in_part n count part_of i v is a).2 ∙ (in_part n count part_of j v js b).2;
  in_order = λ i j is js l.
      let k = part_number n count part_of i is in
      let m = part_number n count part_of j js in
      let f = h.first i k.0 k.1 in
      let q = h.first j m.0 m.1 in
      let less : f.0 < q.0 = first_before n part_of i j f.0 q.0 l f.1 q.1 in
      omega (arith, least_first n count part_of i f.0 k.0 k.1 f.1, least_first n count part_of j q.0 m.0 m.1 q.1);
}
