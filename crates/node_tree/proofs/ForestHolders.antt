-- At which of the first nodes a node hangs.
use Rattle.std.proofs.Common.{◌≡◌, ℕ, zero, suc, ◌+◌, ◌<◌, ◌≤◌, ⊎_elim, Bool, false, ◌&&◌, ◌||◌, cond, eqb, ltb, leb, List, get_or, refl, sym, ◌∙◌, subst, ap, arith}
use Rattle.std.proofs.lemmas.Bool.{cases_lt, ne_eqb, lt-ltb, le-ltb}
use Rattle.std.proofs.lemmas.Bool.Decides.{nat_tests}
use Rattle.cut_definitions.proofs.Bools.{kept_or}
use Rattle.node_tree.specs.Flat.{is_above}
use Rattle.node_tree.specs.Forest.{met_before}

-- a node before the place is met at once, and from a later one the way goes on
pub met_at : (u : List ℕ) (p s x : ℕ) → x < p → met_before u p s x ≡ x
met_at u p zero x h = refl
met_at u p (suc s) x h = ap (λ b. cond b x (met_before u p s (get_or u x 0))) (lt-ltb x p h)

met_up : (u : List ℕ) (p s x : ℕ) → p ≤ x → met_before u p (suc s) x ≡ met_before u p s (get_or u x 0)
met_up u p s x h = ap (λ b. cond b x (met_before u p s (get_or u x 0))) (le-ltb x p h)

abbrev pub Descends : List ℕ → ℕ → Type 0
Descends u size = (i : ℕ) → 1 ≤ i → i < size → get_or u i 0 < i

pub met_less : (u : List ℕ) (size p : ℕ) → Descends u size → 1 ≤ p → (s x : ℕ) → x ≤ s → x < size → met_before u p s x < p
met_less u size p down one zero x le lt = omega (arith, one, le)
met_less u size p down one (suc s) x le lt = ⊎_elim
    (λ (h : x < p). subst (λ (y : ℕ). y < p) (sym (met_at u p (suc s) x h)) h)
    (λ (h : p ≤ x). let low = down x (omega (arith, one, h)) lt in subst (λ (y : ℕ). y < p) (sym (met_up u p s x h)) (met_less u size p down one s (get_or u x 0) (omega (arith, low, le)) (omega (arith, low, lt))))
    (cases_lt x p)

not_above : (u : List ℕ) (s k x : ℕ) → x < k → is_above u s k x ≡ false
not_above u zero k x h = ne_eqb x k (λ e. omega (arith, e, h))
not_above u (suc s) k x h =
    ap (λ b. b || (ltb k x && is_above u s k (get_or u x 0))) (ne_eqb x k (λ e. omega (arith, e, h)))
    ∙ ap (λ b. b && is_above u s k (get_or u x 0)) (le-ltb k x (omega (arith, h)))

or_end : (a b c : Bool) → c ≡ false → (a || (b && c)) ≡ a
or_end a b c h = grind arith

-- the nodes from i to p - 1 all hang from one before them
module _ (u : List ℕ) (size i p upper : ℕ) (down : Descends u size) (one : 1 ≤ i) (some : i ≤ p) (before : upper < i) (flat : (j : ℕ) → i ≤ j → j < p → get_or u j 0 ≡ upper) where
  pub met_step : (s x : ℕ) → x ≤ s → x < size → met_before u i s x ≡ cond (ltb (met_before u p s x) i) (met_before u p s x) upper
  met_step zero x le lt = sym (ap (λ b. cond b x upper) (lt-ltb x i (omega (arith, one, le))))
  met_step (suc s) x le lt = ⊎_elim
      (λ (h : x < i).
      met_at u i (suc s) x h ∙ sym (ap (λ y. cond (ltb y i) y upper) (met_at u p (suc s) x (omega (arith, h, some))) ∙ ap (λ b. cond b x upper) (lt-ltb x i h)))
      (λ (h : i ≤ x). ⊎_elim
      (λ (k : x < p).
      met_up u i s x h ∙ ap (met_before u i s) (flat x h k) ∙ met_at u i s upper before
      ∙ sym (ap (λ y. cond (ltb y i) y upper) (met_at u p (suc s) x k) ∙ ap (λ b. cond b x upper) (le-ltb x i h)))
      (λ (k : p ≤ x).
      let low = down x (omega (arith, one, h)) lt in
      met_up u i s x h ∙ met_step s (get_or u x 0) (omega (arith, low, le)) (omega (arith, low, lt)) ∙ sym (ap (λ y. cond (ltb y i) y upper) (met_up u p s x k)))
      (cases_lt x p))
      (cases_lt x i)

  -- what hangs at one of these nodes is what lies below it
  pub met_below : (j : ℕ) → i ≤ j → j < p → (s x : ℕ) → is_above u s j x ≡ eqb (met_before u p s x) j
  met_below j le lt zero x = refl
  met_below j le lt (suc s) x = ⊎_elim
      (λ (h : x < p).
      let here : eqb x j ≡ eqb (met_before u p (suc s) x) j = sym (ap (λ y. eqb y j) (met_at u p (suc s) x h)) in
      ⊎_elim
      (λ (k : j < x).
      or_end (eqb x j) (ltb j x) (is_above u s j (get_or u x 0)) (ap (is_above u s j) (flat x (omega (arith, le, k)) h) ∙ not_above u s j upper (omega (arith, before, le))) ∙ here)
      (λ (k : x ≤ j). kept_or (eqb x j) (ltb j x) (is_above u s j (get_or u x 0)) (le-ltb j x k) ∙ here)
      (cases_lt j x))
      (λ (h : p ≤ x).
      ap (λ b. b || (ltb j x && is_above u s j (get_or u x 0))) (ne_eqb x j (λ e. omega (arith, e, h, lt)))
      ∙ ap (λ b. b && is_above u s j (get_or u x 0)) (lt-ltb j x (omega (arith, h, lt)))
      ∙ met_below j le lt s (get_or u x 0)
      ∙ sym (ap (λ y. eqb y j) (met_up u p s x h)))
      (cases_lt x p)

-- the tests on which node holds a vertex
pub held_elsewhere : (y i j upper : ℕ) → j < i → (j ≡ upper → ⊥) → eqb y j ≡ eqb (cond (ltb y i) y upper) j
held_elsewhere y i j upper h ne = ⊎_elim
    (λ (l : y < i). sym (ap (λ b. eqb (cond b y upper) j) (lt-ltb y i l)))
    (λ (l : i ≤ y). ne_eqb y j (λ e. omega (arith, e, l, h)) ∙ sym (ap (λ b. eqb (cond b y upper) j) (le-ltb y i l) ∙ ne_eqb upper j (λ e. ne (sym e))))
    (cases_lt y i)

pub held_there : (y i p upper : ℕ) → upper < i → y < p → (eqb y upper || (leb i y && ltb y p)) ≡ eqb (cond (ltb y i) y upper) upper
held_there y i p upper h l = grind (arith, nat_tests)

pub none_between : (y k : ℕ) → (leb k y && ltb y (k + 0)) ≡ false
none_between y k = grind (arith, nat_tests)

pub one_more : (y k l : ℕ) → ((leb (suc k) y && ltb y (suc k + l)) || eqb y k) ≡ (leb k y && ltb y (k + suc l))
one_more y k l = grind (arith, nat_tests)
