-- The vertices of a part's cactus under the names of the part's list.
use Rattle.std.proofs.Common.{◌≡◌, ℕ, Bool, true, false, cond, ◌+◌, ◌-◌, ◌≤◌, ◌<◌, ◌==◌, ◌||◌, zero, suc, List, [], ◌∷◌, length, map, drop, get_or, refl, sym, ◌∙◌, ap, subst, arith, ⊎_elim, ne_eqb}
use Rattle.std.specs.Prelude.{if◌then◌else◌, nat_lt}
use Rattle.std.specs.List.{All, filter}
use Rattle.std.proofs.lemmas.Bool.{cases_Bool, cases_eq, cases_lt, eq-eqb, lt-ltb, le-ltb, or_right}
use Rattle.std.proofs.lemmas.List.Elements.{All-head}
use Rattle.cut_definitions.specs.Cuts.{has, IsAscendingWithin}
use Rattle.cut_definitions.proofs.Bridge.{has_low}
use Rattle.cut_definitions.proofs.Bools.{never_both, no_left, no_right}
use Rattle.cut_definitions.proofs.ListLaws.{All-back}
use Rattle.rooted_cactus.specs.Entered.{name_of, renamed}
use Rattle.cactus_merge.specs.Assembled.{names_by, inserted}
use Rattle.cactus_merge.proofs.Lifted.{name_at}
use Rattle.cactus_merge.proofs.Within.{Lacks}

-- ---- ascending lists
pub ascends_at : (low high : ℕ) (l : List ℕ) (i : ℕ) → IsAscendingWithin low high l → i < length l → (low ≤ get_or l i 0) × (get_or l i 0 ≤ high)
ascends_at low high [] i a h = absurd (omega (arith, h))
ascends_at low high (x ∷ l) zero a h = (a.0, a.1)
ascends_at low high (x ∷ l) (suc i) a h = let r = ascends_at (x + 1) high l i a.2 (omega (arith, h)) in (omega (arith, a.0, r.0), r.1)

pub ascends_less : (low high : ℕ) (l : List ℕ) (i j : ℕ) → IsAscendingWithin low high l → i < j → j < length l → get_or l i 0 < get_or l j 0
ascends_less low high [] i j a p h = absurd (omega (arith, h))
ascends_less low high (x ∷ l) i zero a p h = absurd (omega (arith, p))
ascends_less low high (x ∷ l) zero (suc j) a p h = omega (arith, (ascends_at (x + 1) high l j a.2 (omega (arith, h))).0)
ascends_less low high (x ∷ l) (suc i) (suc j) a p h = ascends_less (x + 1) high l i j a.2 (omega (arith, p)) (omega (arith, h))

pub from_two : (k : ℕ) (l : List ℕ) → IsAscendingWithin 1 k l → Lacks 1 l → IsAscendingWithin 2 k l
from_two k [] a h = tt
from_two k (x ∷ l) a h = ⊎_elim
    (λ e. absurd (clash (x == 1) (has l 1) (eq-eqb x 1 e) h))
    (λ ne. (omega (arith, ne, a.0), a.1, a.2))
    (cases_eq x 1)
  where
    clash : (p q : Bool) → p ≡ true → (p || q) ≡ false → ⊥
    clash p q d e = grind arith

is_low : (x : ℕ) (b : Bool) → ((x == 1) || b) ≡ true → (x ≡ 1 → ⊥) → b ≡ true
is_low x b h ne = sym (ap (λ (a : Bool). a || b) (ne_eqb x 1 ne)) ∙ h

-- a list that has 1 begins with it
pub begins_with_one : (k : ℕ) (l : List ℕ) → IsAscendingWithin 1 k l → has l 1 ≡ true → (l ≡ 1 ∷ drop 1 l) × IsAscendingWithin 2 k (drop 1 l)
begins_with_one k [] a h = absurd (never_both false h refl)
begins_with_one k (x ∷ l) a h = ⊎_elim
    (λ e. (ap (λ (y : ℕ). y ∷ l) e, subst (λ (y : ℕ). IsAscendingWithin (y + 1) k l) e a.2))
    (λ ne. absurd (never_both (has l 1) (is_low x (has l 1) h ne) (has_low (x + 1) k 1 l a.2 (omega (arith, a.0)))))
    (cases_eq x 1)

pub has_inserted : (x : ℕ) (l : List ℕ) (v : ℕ) → has (inserted x l) v ≡ ((x == v) || has l v)
has_inserted x [] v = refl
has_inserted x (y ∷ ys) v = ⊎_elim
    (λ yes. ap (λ (b : Bool). has (if b then y ∷ inserted x ys else x ∷ y ∷ ys) v) yes ∙ ap (λ (b : Bool). (y == v) || b) (has_inserted x ys v) ∙ swap (y == v) (x == v) (has ys v))
    (λ no. ap (λ (b : Bool). has (if b then y ∷ inserted x ys else x ∷ y ∷ ys) v) no)
    (cases_Bool (nat_lt y x))
  where
    swap : (a b c : Bool) → (a || (b || c)) ≡ (b || (a || c))
    swap a b c = grind arith

pub inserted_ascends : (low high x : ℕ) (l : List ℕ) → IsAscendingWithin low high l → low ≤ x → x ≤ high → Lacks x l → IsAscendingWithin low high (inserted x l)
inserted_ascends low high x [] a p q h = (p, q, tt)
inserted_ascends low high x (y ∷ ys) a p q h = ⊎_elim
    (λ lt. subst (λ (b : Bool). IsAscendingWithin low high (if b then y ∷ inserted x ys else x ∷ y ∷ ys)) (sym (lt-ltb y x lt)) (a.0, a.1, inserted_ascends (y + 1) high x ys a.2 (omega (arith, lt)) q (no_right (y == x) (has ys x) h)))
    (λ ge. subst (λ (b : Bool). IsAscendingWithin low high (if b then y ∷ inserted x ys else x ∷ y ∷ ys)) (sym (le-ltb y x ge)) (p, q, (omega (arith, ge, differ), a.1, a.2)))
    (cases_lt y x)
  where
    differ : y ≡ x → ⊥
    differ e = never_both (y == x) (eq-eqb y x e) (no_left (y == x) (has ys x) h)

-- ---- names
module _ (n : ℕ) (own : List ℕ) (k : ℕ) (asc : IsAscendingWithin 1 n own) (more : k ≡ length own + 1) where
  pub name_within : (u : ℕ) → 2 ≤ u → u ≤ k → (1 ≤ name_of (names_by own) u) × (name_of (names_by own) u ≤ n)
  name_within u l h =
      let e = name_at own u l (omega (arith, h, more)) in
      let r = ascends_at 1 n own (u - 2) asc (omega (arith, h, more, l)) in
      (omega (arith, e, r.0), omega (arith, e, r.1))

  pub name_less : (u w : ℕ) → 2 ≤ u → u < w → w ≤ k → name_of (names_by own) u < name_of (names_by own) w
  name_less u w l p h =
      omega (arith, name_at own u l (omega (arith, h, more, p)), name_at own w (omega (arith, l, p)) (omega (arith, h, more)), ascends_less 1 n own (u - 2) (w - 2) asc (omega (arith, p, l)) (omega (arith, h, more, p, l)))

  pub names_ascend : (l : List ℕ) (low b : ℕ) → 2 ≤ low → IsAscendingWithin low k l → ((u : ℕ) → low ≤ u → u ≤ k → b ≤ name_of (names_by own) u) → IsAscendingWithin b n (renamed (names_by own) l)
  names_ascend [] low b t a h = tt
  names_ascend (x ∷ l) low b t a h = (
    h x a.0 a.1,
    (name_within x (omega (arith, t, a.0)) a.1).1,
    names_ascend l (x + 1) (name_of (names_by own) x + 1) (omega (arith, t, a.0)) a.2 (λ u p q. omega (arith, name_less x u (omega (arith, t, a.0)) (omega (arith, p)) q)),
  )

  same_test : (x u : ℕ) → 2 ≤ x → x ≤ k → 2 ≤ u → u ≤ k → (name_of (names_by own) x == name_of (names_by own) u) ≡ (x == u)
  same_test x u a b c d = ⊎_elim
      (λ lt. ne_eqb _ _ (λ e. omega (arith, e, name_less x u a lt d)) ∙ sym (ne_eqb x u (λ e. omega (arith, e, lt))))
      (λ ge. ⊎_elim
      (λ e. eq-eqb _ _ (ap (name_of (names_by own)) e) ∙ sym (eq-eqb x u e))
      (λ ne. ne_eqb _ _ (λ e. omega (arith, e, name_less u x c (omega (arith, ge, ne)) b)) ∙ sym (ne_eqb x u ne))
      (cases_eq x u))
      (cases_lt x u)

  pub has_name : (l : List ℕ) (low u v : ℕ) → 2 ≤ low → IsAscendingWithin low k l → 2 ≤ u → u ≤ k → name_of (names_by own) u ≡ v → has (renamed (names_by own) l) v ≡ has l u
  has_name [] low u v t a c d e = refl
  has_name (x ∷ l) low u v t a c d e =
      ap (λ (w : ℕ). (name_of (names_by own) x == w) || has (renamed (names_by own) l) v) (sym e)
      ∙ ap (λ (b : Bool). b || has (renamed (names_by own) l) v) (same_test x u (omega (arith, t, a.0)) a.1 c d)
      ∙ ap (λ (b : Bool). (x == u) || b) (has_name l (x + 1) u v (omega (arith, t, a.0)) a.2 c d e)

  pub lacks_name : (l : List ℕ) (low v : ℕ) → 2 ≤ low → IsAscendingWithin low k l → ((u : ℕ) → 2 ≤ u → u ≤ k → name_of (names_by own) u ≡ v → ⊥) → Lacks v (renamed (names_by own) l)
  lacks_name [] low v t a h = refl
  lacks_name (x ∷ l) low v t a h =
      ap (λ (b : Bool). b || has (renamed (names_by own) l) v) (ne_eqb _ v (h x (omega (arith, t, a.0)) a.1))
      ∙ lacks_name l (x + 1) v (omega (arith, t, a.0)) a.2 h

pub record IsPlace (l : List ℕ) (v : ℕ) : Type 0 where
  pub place : ℕ
  pub inside : place < length l
  pub there : get_or l place 0 ≡ v

pub place_of : (l : List ℕ) (v : ℕ) → has l v ≡ true → IsPlace l v
place_of [] v h = absurd (never_both false h refl)
place_of (x ∷ l) v h = ⊎_elim
    (λ e. record { place = 0; inside = omega arith; there = e })
    (λ ne. (let r = place_of l v (sym (ap (λ (a : Bool). a || has l v) (ne_eqb x v ne)) ∙ h) in record { place = suc r.place; inside = omega (arith, r.inside); there = r.there }))
    (cases_eq x v)

pub has_at : (l : List ℕ) (i v : ℕ) → i < length l → get_or l i 0 ≡ v → has l v ≡ true
has_at [] i v h e = absurd (omega (arith, h))
has_at (x ∷ l) zero v h e = ap (λ (b : Bool). b || has l v) (eq-eqb x v e)
has_at (x ∷ l) (suc i) v h e = or_right (x == v) (has l v) (has_at l i v (omega (arith, h)) e)

-- ---- counts of lists that have a vertex
abbrev pub count_of : List (List ℕ) → ℕ → ℕ
count_of ls v = length (filter (λ l. has l v) ls)

pub count_yes : (l : List ℕ) (ls : List (List ℕ)) (v : ℕ) → has l v ≡ true → count_of (l ∷ ls) v ≡ suc (count_of ls v)
count_yes l ls v h = ap (λ (b : Bool). length (cond b (l ∷ filter (λ m. has m v) ls) (filter (λ m. has m v) ls))) h

pub count_no : (l : List ℕ) (ls : List (List ℕ)) (v : ℕ) → has l v ≡ false → count_of (l ∷ ls) v ≡ count_of ls v
count_no l ls v h = ap (λ (b : Bool). length (cond b (l ∷ filter (λ m. has m v) ls) (filter (λ m. has m v) ls))) h

pub count_head : (l m : List ℕ) (ls ms : List (List ℕ)) (v w : ℕ) → has l v ≡ has m w → count_of ls v ≡ count_of ms w → count_of (l ∷ ls) v ≡ count_of (m ∷ ms) w
count_head l m ls ms v w h e = ⊎_elim
    (λ yes. count_yes l ls v yes ∙ ap suc e ∙ sym (count_yes m ms w (sym h ∙ yes)))
    (λ no. count_no l ls v no ∙ e ∙ sym (count_no m ms w (sym h ∙ no)))
    (cases_Bool (has l v))

pub count_none : (ls : List (List ℕ)) (v : ℕ) → All (Lacks v) ls → count_of ls v ≡ 0
count_none [] v h = refl
count_none (l ∷ ls) v h = count_no l ls v (All-head (Lacks v) l ls h) ∙ count_none ls v (All-back (Lacks v) (l ∷ []) ls h)

pub count_renamed : (r : List ℕ → List ℕ) (ls : List (List ℕ)) (v w : ℕ) → All (λ l. has (r l) v ≡ has l w) ls → count_of (map r ls) v ≡ count_of ls w
count_renamed r [] v w h = refl
count_renamed r (l ∷ ls) v w h = count_head (r l) l (map r ls) ls v w (All-head (λ m. has (r m) v ≡ has m w) l ls h) (count_renamed r ls v w (All-back (λ m. has (r m) v ≡ has m w) (l ∷ []) ls h))
