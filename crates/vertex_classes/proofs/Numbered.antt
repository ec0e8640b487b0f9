-- Classes numbered by their first vertices.
use Rattle.std.proofs.Common.{Bool, true, false, not, ◌&&◌, eqb, subst, ◌≡◌, ℕ, ◌+◌, ◌-◌, ◌<◌, ◌≤◌, ⊎_elim, List, [], ◌∷◌, ◌++◌, length, get_or, refl, sym, ◌∙◌, ap, arith}
use Rattle.std.specs.Prelude.{◌≢◌}
use Rattle.std.proofs.lemmas.Bool.{cases_eq, cases_lt, eq-eqb, eqb-true, false≢true}
use Rattle.std.proofs.lemmas.Bool.Decides.{nat_tests}
use Rattle.std.proofs.lemmas.List.{get_or_append_left, get_or_default, length_push}
use Rattle.std.proofs.lemmas.List.Elements.{All-from_get_or}
use Rattle.std.proofs.Math.Seq.{get_or-append_seam}
use Rattle.cut_definitions.specs.Contraction.{label, classes, IsLabels}
use Rattle.cut_definitions.proofs.ListLaws.{fold_max-bound}
use Rattle.vertex_classes.specs.Classes.{no_vertex, AreJoined, AreNumbersOf, AreParents, Respects}
use Rattle.cut_definitions.specs.Weight.{VertexSet}

-- the first place of a number, before which all are lesser
pub record IsFirstPlace (numbers : List ℕ) (c place : ℕ) : Type 0 where
  pub within : place < length numbers
  pub there : get_or numbers place 0 ≡ c
  pub before : (i : ℕ) → i < place → get_or numbers i 0 < c

-- the vertices before one have numbers from 1 to a count, which come up in their order, and those with one number are joined
pub record AreNumbered (parents numbers : List ℕ) (count v : ℕ) : Type 0 where
  pub long : length numbers + 1 ≡ v
  pub few : count < v
  pub low : (k : ℕ) → k < length numbers → 1 ≤ get_or numbers k 0
  pub high : (k : ℕ) → k < length numbers → get_or numbers k 0 ≤ count
  pub least : (c : ℕ) → 1 ≤ c → c ≤ count → (k : ℕ) × IsFirstPlace numbers c k
  pub first : 1 ≤ length numbers → get_or numbers 0 0 ≡ 1
  pub joined : (i j : ℕ) → i < length numbers → j < length numbers → get_or numbers i 0 ≡ get_or numbers j 0 → AreJoined parents (i + 1) (j + 1)
  pub same : (w : ℕ) → 1 ≤ w → w ≤ length numbers → 1 ≤ get_or parents w 0 → get_or numbers (w - 1) 0 ≡ get_or numbers (get_or parents w 0 - 1) 0

pub none_numbered : (parents : List ℕ) → AreNumbered parents [] 0 1
none_numbered parents = record {
  long = refl;
  few = omega arith;
  low = λ k l. absurd (omega arith);
  high = λ k l. absurd (omega arith);
  least = λ c l u. absurd (omega arith);
  first = λ l. absurd (omega arith);
  joined = λ i j l. absurd (omega arith);
  same = λ w one le. absurd (omega arith);
}

before : (xs : List ℕ) (x k : ℕ) → k < length xs → get_or (xs ++ x ∷ []) k 0 ≡ get_or xs k 0
before xs x k l = get_or_append_left xs (x ∷ []) 0 k l

at_end : (xs : List ℕ) (x k : ℕ) → k ≡ length xs → get_or (xs ++ x ∷ []) k 0 ≡ x
at_end xs x k e = rw e (get_or-append_seam xs x [] 0)

-- a first place stays with one number more
place_kept : (numbers : List ℕ) (x c place : ℕ) → IsFirstPlace numbers c place → IsFirstPlace (numbers ++ x ∷ []) c place
place_kept numbers x c place h = record {
  within = omega (arith, length_push numbers x, h.within);
  there = before numbers x place h.within ∙ h.there;
  before = λ i l. omega (arith, before numbers x i (omega (arith, l, h.within)), h.before i l);
}

-- what holds of all places holds of one more
one_more : (P : ℕ → Type 0) (n : ℕ) → ((k : ℕ) → k < n → P k) → P n → (k : ℕ) → k < n + 1 → P k
one_more P n h last k l =
    ⊎_elim
    (λ (e : k ≡ n). rw e last)
    (λ ne. h k (omega arith))
    (cases_eq k n)

-- a vertex gets the number of its parent
pub numbered_as : (parents numbers : List ℕ) (count v p : ℕ) → AreParents parents → AreNumbered parents numbers count v → v < length parents → get_or parents v 0 ≡ p → 1 ≤ p → p < v →
    AreNumbered parents (numbers ++ get_or numbers (p - 1) 0 ∷ []) count (v + 1)
numbered_as parents numbers count v p up h lv is one less =
    let x = get_or numbers (p - 1) 0 in
    let lp : p - 1 < length numbers = omega (arith, h.long) in
    let e : p - 1 + 1 ≡ p = omega arith in
    let ev : length numbers + 1 ≡ v = h.long in
    -- whatever has the number of the parent is joined with the vertex
    let with_new : (i : ℕ) → i < length numbers → get_or numbers i 0 ≡ x → AreJoined parents (i + 1) (length numbers + 1) =
    λ i l same s r. (h.joined i (p - 1) l lp same s r ∙ ap s e) ∙ (ap s (sym is) ∙ (r v lv ∙ ap s (sym ev))) in
    record {
      long = omega (arith, length_push numbers x, h.long);
      few = omega (arith, h.few);
      low = λ k l. one_more (λ k. 1 ≤ get_or (numbers ++ x ∷ []) k 0) (length numbers) (λ k l. omega (arith, before numbers x k l, h.low k l)) (omega (arith, at_end numbers x (length numbers) refl, h.low (p - 1) lp)) k (omega (arith, length_push numbers x));
      high = λ k l. one_more (λ k. get_or (numbers ++ x ∷ []) k 0 ≤ count) (length numbers) (λ k l. omega (arith, before numbers x k l, h.high k l)) (omega (arith, at_end numbers x (length numbers) refl, h.high (p - 1) lp)) k (omega (arith, length_push numbers x));
      least = λ c l u. let k = h.least c l u in (k.0, place_kept numbers x c k.0 k.1);
      first = λ l. before numbers x 0 (omega arith) ∙ h.first (omega arith);
      joined = λ i j li lj same.
          ⊎_elim
          (λ (a : i < length numbers).
          ⊎_elim
          (λ (b : j < length numbers). h.joined i j a b (omega (arith, before numbers x i a, before numbers x j b)))
          (λ (b : length numbers ≤ j).
          let q : j ≡ length numbers = omega (arith, length_push numbers x) in
          rw q (with_new i a (omega (arith, before numbers x i a, at_end numbers x j q))))
          (cases_lt j (length numbers)))
          (λ (a : length numbers ≤ i).
          let p0 : i ≡ length numbers = omega (arith, length_push numbers x) in
          ⊎_elim
          (λ (b : j < length numbers). λ s r. sym (rw p0 (with_new j b (omega (arith, before numbers x j b, at_end numbers x i p0)) s r)))
          (λ (b : length numbers ≤ j).
          let q : j ≡ i = omega (arith, length_push numbers x) in λ s r. rw q refl)
          (cases_lt j (length numbers)))
          (cases_lt i (length numbers));
      same = λ w w1 wl pw.
          let wv : w ≤ v = omega (arith, length_push numbers x, h.long) in
          let low = up w (omega arith) in
          ⊎_elim
          (λ (e : w ≡ v).
          let at : w - 1 ≡ length numbers = omega arith in
          let there : get_or parents w 0 ≡ p = rw e is in
          let lq : get_or parents w 0 - 1 < length numbers = omega arith in
          let to : get_or numbers (get_or parents w 0 - 1) 0 ≡ x = ap (λ (k : ℕ). get_or numbers (k - 1) 0) there in
          at_end numbers x (w - 1) at ∙ sym (before numbers x (get_or parents w 0 - 1) lq ∙ to))
          (λ ne.
          let l : w - 1 < length numbers = omega arith in
          let lq : get_or parents w 0 - 1 < length numbers = omega arith in
          before numbers x (w - 1) l ∙ (h.same w w1 (omega arith) pw ∙ sym (before numbers x (get_or parents w 0 - 1) lq)))
          (cases_eq w v);
    }

-- a vertex gets the next number
pub numbered_next : (parents numbers : List ℕ) (count v : ℕ) → AreParents parents → v < length parents → (1 ≤ get_or parents v 0 → v ≤ get_or parents v 0) → AreNumbered parents numbers count v → AreNumbered parents (numbers ++ (count + 1) ∷ []) (count + 1) (v + 1)
numbered_next parents numbers count v up lv first h =
    let x = count + 1 in
    record {
      long = omega (arith, length_push numbers x, h.long);
      few = omega (arith, h.few);
      low = λ k l. one_more (λ k. 1 ≤ get_or (numbers ++ x ∷ []) k 0) (length numbers) (λ k l. omega (arith, before numbers x k l, h.low k l)) (omega (arith, at_end numbers x (length numbers) refl)) k (omega (arith, length_push numbers x));
      high = λ k l. one_more (λ k. get_or (numbers ++ x ∷ []) k 0 ≤ x) (length numbers) (λ k l. omega (arith, before numbers x k l, h.high k l)) (omega (arith, at_end numbers x (length numbers) refl)) k (omega (arith, length_push numbers x));
      least = λ c l u.
          ⊎_elim
          (λ (e : c ≡ x). (
            length numbers,
            record {
              within = omega (arith, length_push numbers x);
              there = at_end numbers x (length numbers) refl ∙ sym e;
              before = λ i li. omega (arith, before numbers x i li, h.high i li, e);
            },
          ))
          (λ ne. let k = h.least c l (omega arith) in (k.0, place_kept numbers x c k.0 k.1))
          (cases_eq c x);
      first = λ l.
          ⊎_elim
          (λ (e : length numbers ≡ 0). omega (arith, at_end numbers x 0 (sym e), h.few, h.long))
          (λ ne. before numbers x 0 (omega arith) ∙ h.first (omega arith))
          (cases_eq (length numbers) 0);
      joined = λ i j li lj same.
          ⊎_elim
          (λ (a : i < length numbers).
          ⊎_elim
          (λ (b : j < length numbers). h.joined i j a b (omega (arith, before numbers x i a, before numbers x j b)))
          (λ (b : length numbers ≤ j).
          let q : j ≡ length numbers = omega (arith, length_push numbers x) in
          absurd (omega (arith, before numbers x i a, at_end numbers x j q, h.high i a)))
          (cases_lt j (length numbers)))
          (λ (a : length numbers ≤ i).
          let p0 : i ≡ length numbers = omega (arith, length_push numbers x) in
          ⊎_elim
          (λ (b : j < length numbers). absurd (omega (arith, before numbers x j b, at_end numbers x i p0, h.high j b)))
          (λ (b : length numbers ≤ j).
          let q : j ≡ i = omega (arith, length_push numbers x) in λ s r. rw q refl)
          (cases_lt j (length numbers)))
          (cases_lt i (length numbers));
      same = λ w w1 wl pw.
          let wv : w ≤ v = omega (arith, length_push numbers x, h.long) in
          let low = up w (omega arith) in
          ⊎_elim
          (λ (e : w ≡ v).
          let high : v ≤ get_or parents v 0 = first (subst (λ (k : ℕ). 1 ≤ get_or parents k 0) e pw) in
          let there : get_or parents w 0 ≡ w = rw e (let lv2 = up v lv in omega arith) in
          ap (λ (k : ℕ). get_or (numbers ++ x ∷ []) (k - 1) 0) (sym there))
          (λ ne.
          let l : w - 1 < length numbers = omega (arith, h.long) in
          let lq : get_or parents w 0 - 1 < length numbers = omega arith in
          before numbers x (w - 1) l ∙ (h.same w w1 (omega arith) pw ∙ sym (before numbers x (get_or parents w 0 - 1) lq)))
          (cases_eq w v);
    }

most_numbered : (parents numbers : List ℕ) (count v : ℕ) → AreNumbered parents numbers count v → classes numbers ≤ count
most_numbered parents numbers count v h = fold_max-bound numbers 0 count (omega arith) h.high

pub numbered_labels : (parents numbers : List ℕ) (count v : ℕ) → AreNumbered parents numbers count v → IsLabels numbers
numbered_labels parents numbers count v h =
    let most = most_numbered parents numbers count v h in
    record {
      from_one = All-from_get_or (λ c. 1 ≤ c) numbers 0 h.low;
      used = λ c l u. let k = h.least c l (omega arith) in (k.0, k.1.within, get_or_default numbers k.0 c 0 k.1.within ∙ k.1.there);
      first = λ l. h.first l;
    }

numbered_joined : (parents numbers : List ℕ) (count v : ℕ) → AreNumbered parents numbers count v → (i j : ℕ) → 1 ≤ i → i < v → 1 ≤ j → j < v →
    label numbers i ≡ label numbers j → AreJoined parents i j
numbered_joined parents numbers count v h i j i1 iv j1 jv same =
    let ei : i - 1 + 1 ≡ i = omega arith in
    let ej : j - 1 + 1 ≡ j = omega arith in
    λ s r. ap s (sym ei) ∙ (h.joined (i - 1) (j - 1) (omega (arith, h.long)) (omega (arith, h.long)) same s r ∙ ap s ej)

pub zero_out : (v : ℕ) → 1 ≤ v → eqb v 0 ≡ false
zero_out v one = grind (arith, nat_tests)

pub not_zero : (v : ℕ) → eqb v 0 ≡ false → 1 ≤ v
not_zero v h = ⊎_elim (λ (e : v ≡ 0). absurd (false≢true (sym h ∙ eq-eqb v 0 e))) (λ ne. omega arith) (cases_eq v 0)

-- the vertices with one number
with_number : List ℕ → ℕ → VertexSet
with_number numbers c x = not (eqb x 0) && eqb (label numbers x) c

with_number-one : (numbers : List ℕ) (c x : ℕ) → 1 ≤ x → with_number numbers c x ≡ eqb (label numbers x) c
unfolding with_number
with_number-one numbers c x one = ap (λ (b : Bool). not b && eqb (label numbers x) c) (zero_out x one)

with_number-respects : (parents numbers : List ℕ) (count v c : ℕ) → AreParents parents → AreNumbered parents numbers count v → length parents ≤ v → Respects parents no_vertex →
    Respects parents (with_number numbers c)
with_number-respects parents numbers count v c up h whole apart w lw =
    ⊎_elim
    (λ (e : w ≡ 0).
    let low = up w lw in
    let z : get_or parents w 0 ≡ w = omega arith in
    ap (with_number numbers c) z)
    (λ (ne : w ≢ 0).
    let w1 : 1 ≤ w = omega arith in
    let pw : 1 ≤ get_or parents w 0 = not_zero (get_or parents w 0) (apart w lw ∙ zero_out w w1) in
    with_number-one numbers c (get_or parents w 0) pw ∙ (ap (λ (k : ℕ). eqb k c) (sym (h.same w w1 (omega (arith, h.long)) pw)) ∙ sym (with_number-one numbers c w w1)))
    (cases_eq w 0)

-- what is joined has one number
numbered_same : (parents numbers : List ℕ) (count v : ℕ) → AreParents parents → AreNumbered parents numbers count v → length parents ≤ v → Respects parents no_vertex →
    (i j : ℕ) → 1 ≤ i → i < v → 1 ≤ j → j < v → AreJoined parents i j → label numbers i ≡ label numbers j
numbered_same parents numbers count v up h whole apart i j i1 iv j1 jv joined =
    let c = label numbers i in
    let both : with_number numbers c i ≡ with_number numbers c j = joined (with_number numbers c) (with_number-respects parents numbers count v c up h whole apart) in
    let here : with_number numbers c i ≡ true = with_number-one numbers c i i1 ∙ eq-eqb c c refl in
    let there : eqb (label numbers j) c ≡ true = sym (with_number-one numbers c j j1) ∙ (sym both ∙ here) in
    sym (eqb-true (label numbers j) c there)

-- all vertices have the numbers of their classes
pub numbers_of : (parents numbers : List ℕ) (count v : ℕ) → AreParents parents → AreNumbered parents numbers count v → length parents ≡ v → Respects parents no_vertex → AreNumbersOf parents numbers
numbers_of parents numbers count v up h whole apart = record {
  long = h.long ∙ sym whole;
  are_labels = numbered_labels parents numbers count v h;
  joined = λ u w u1 un w1 wn. (
    λ same. numbered_joined parents numbers count v h u w u1 (omega (arith, whole)) w1 (omega (arith, whole)) same,
    λ joined. numbered_same parents numbers count v up h (omega (arith, whole)) apart u w u1 (omega (arith, whole)) w1 (omega (arith, whole)) joined,
  );
  least = λ c one le.
      let k = h.least c one (omega (arith, most_numbered parents numbers count v h)) in
      let here : k.0 + 1 - 1 ≡ k.0 = omega arith in (
        k.0 + 1,
        record {
          from_one = omega arith;
          within = omega (arith, k.1.within);
          there = ap (λ (j : ℕ). get_or numbers j 0) here ∙ k.1.there;
          before = λ u u1 l. k.1.before (u - 1) (omega (arith, u1, l));
        },
      );
}
