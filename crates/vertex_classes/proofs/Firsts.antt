-- The vertices that are their own parents, counted.
use Rattle.std.proofs.Common.{true, false, cond, eqb, ◌≡◌, ℕ, zero, suc, ◌+◌, ◌-◌, ◌<◌, ◌≤◌, ⊎_elim, List, [], ◌∷◌, length, get_or, refl, sym, ◌∙◌, ap, arith}
use Rattle.std.specs.Prelude.{◌≢◌}
use Rattle.std.specs.List.{filter, range_with_len}
use Rattle.std.proofs.lemmas.Bool.{cases_Bool, eq-eqb, eqb-true, false≢true}
use Rattle.cut_definitions.specs.Weight.{VertexSet}
use Rattle.std.proofs.lemmas.List.FromFn.{length-range_with_len}
use Rattle.cut_definitions.proofs.ListLaws.{length-filter_le}
use Rattle.cut_definitions.proofs.Bridge.{has_within, IsAscendingWithin-filter}
use Rattle.vertex_classes.specs.Classes.{no_vertex, AreParents, HasClasses, Respects}
use Rattle.vertex_classes.proofs.Numbered.{not_zero, zero_out}
use Rattle.vertex_classes.proofs.Roots.{first_is_least}

-- the vertices that are their own parents
pub is_own : List ℕ → VertexSet
is_own parents v = eqb (get_or parents v 0) v

is_own-is : (parents : List ℕ) (v : ℕ) → is_own parents v ≡ eqb (get_or parents v 0) v
unfolding is_own
is_own-is parents v = refl

-- this many of the vertices from 1 on are counted, of the first `done` of them
pub record IsCounted (parents : List ℕ) (v count : ℕ) : Type 0 where
  pub done : ℕ
  pub next : v ≡ done + 1
  pub counted : count ≡ length (filter (is_own parents) (range_with_len 1 done))

pub none_counted : (parents : List ℕ) → IsCounted parents 1 0
none_counted parents = record { done = 0; next = refl; counted = refl }

pub counted_few : (parents : List ℕ) (v count : ℕ) → IsCounted parents v count → count < v
counted_few parents v count h =
    omega (arith, h.next, h.counted, length-filter_le (is_own parents) (range_with_len 1 h.done), length-range_with_len 1 h.done)

-- a vertex of the set counts for one
abbrev tally : VertexSet → ℕ → ℕ
tally p v = cond (p v) 1 0

with_head : (p : VertexSet) (a : ℕ) (xs : List ℕ) → length (filter p (a ∷ xs)) ≡ tally p a + length (filter p xs)
with_head p a xs = ⊎_elim (λ (t : p a ≡ true). rw t (omega arith)) (λ (f : p a ≡ false). rw f (omega arith)) (cases_Bool (p a))

with_last : (p : VertexSet) (k a : ℕ) → length (filter p (range_with_len a (suc k))) ≡ length (filter p (range_with_len a k)) + tally p (a + k)
with_last p zero a =
    let e : a + 0 ≡ a = omega arith in
    omega (arith, with_head p a [], ap (tally p) e)
with_last p (suc k) a =
    let e : a + 1 + k ≡ a + suc k = omega arith in
    omega (arith, with_head p a (range_with_len (a + 1) (suc k)), with_head p a (range_with_len (a + 1) k), with_last p k (a + 1), ap (tally p) e)

pub one_counted : (parents : List ℕ) (v count : ℕ) → IsCounted parents v count → get_or parents v 0 ≡ v → IsCounted parents (v + 1) (count + 1)
one_counted parents v count h own =
    let one : tally (is_own parents) v ≡ 1 = rw (is_own-is parents v ∙ eq-eqb (get_or parents v 0) v own) refl in
    let at : 1 + h.done ≡ v = omega (arith, h.next) in
    record {
      done = suc h.done;
      next = omega (arith, h.next);
      counted = omega (arith, with_last (is_own parents) h.done 1, h.counted, one, ap (tally (is_own parents)) at);
    }

pub one_passed : (parents : List ℕ) (v count : ℕ) → IsCounted parents v count → get_or parents v 0 ≢ v → IsCounted parents (v + 1) count
one_passed parents v count h other =
    let no : is_own parents v ≡ false = ⊎_elim (λ (t : is_own parents v ≡ true). absurd (other (eqb-true (get_or parents v 0) v (sym (is_own-is parents v) ∙ t)))) (λ (f : is_own parents v ≡ false). f) (cases_Bool (is_own parents v)) in
    let none : tally (is_own parents) v ≡ 0 = rw no refl in
    let at : 1 + h.done ≡ v = omega (arith, h.next) in
    record {
      done = suc h.done;
      next = omega (arith, h.next);
      counted = omega (arith, with_last (is_own parents) h.done 1, h.counted, none, ap (tally (is_own parents)) at);
    }

pub all_counted : (parents : List ℕ) (v count : ℕ) → AreParents parents → Respects parents no_vertex → IsCounted parents v count → length parents ≡ v → HasClasses parents count
all_counted parents v count up apart h all =
    let n = h.done in
    let high : length parents - 1 ≡ n = omega (arith, all, h.next) in
    let own = is_own parents in
    let firsts = filter own (range_with_len 1 n) in
    record {
      firsts = firsts;
      ascending = rw high (IsAscendingWithin-filter n 1 n own (omega arith));
      counted = h.counted;
      first = λ w w1 wl is u u1 ul.
          let here : own w ≡ true = sym (has_within n 1 w own w1 (omega (arith, high, wl))) ∙ is in
          first_is_least parents u w up (eqb-true (get_or parents w 0) w (sym (is_own-is parents w) ∙ here)) ul wl;
      later = λ w w1 wl is.
          let here : own w ≡ false = sym (has_within n 1 w own w1 (omega (arith, high, wl))) ∙ is in
          let ne : get_or parents w 0 ≢ w = λ e. false≢true (sym here ∙ (is_own-is parents w ∙ eq-eqb (get_or parents w 0) w e)) in
          let low : 1 ≤ get_or parents w 0 = not_zero (get_or parents w 0) (apart w wl ∙ zero_out w w1) in
          let le = up w wl in
          (get_or parents w 0, low, omega (arith, le, ne), λ s r. r w wl);
    }
