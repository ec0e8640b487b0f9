-- In the list of all vertices of a cactus each vertex has one place.
use Rattle.std.proofs.Common.{◌≡◌, ℕ, zero, suc, ◌+◌, ◌≤◌, ◌<◌, Bool, true, false, not, ◌&&◌, ◌||◌, ◌==◌, ◌⊎◌, inl, inr, List, [], ◌∷◌, ◌++◌, length, take, drop, ap, ◌∙◌, sym, refl, arith}
use Rattle.std.specs.Prelude.{nat_le, if◌then◌else◌}
use Rattle.std.specs.List.{All, concat, filter}
use Rattle.std.proofs.lemmas.List.Elements.{All-nil, All-cons, All-append, All-head, All-tail}
use Rattle.std.proofs.lemmas.Bool.{eqb-true, ne_eqb, false≢true, le-leb, lt-leb}
use Rattle.std.proofs.Math.Bool.{and-false}
use Rattle.cut_definitions.proofs.Numbers.{cases_le}
use Rattle.cut_definitions.specs.Cuts.{has, IsAscendingWithin}
use Rattle.rooted_cactus.specs.Places.{AreOnce}
use Rattle.cut_definitions.specs.Graph.{IsVertex}
use Rattle.rooted_cactus.specs.Entered.{entered}
use Rattle.rooted_cactus.specs.Rooted.{IsCactus}
use Rattle.rooted_cactus.specs.declared.tree.Node.{Node}
use Rattle.rooted_cactus.proofs.Elements.{drop_nothing}

-- how often a number is in a list
abbrev times : ℕ → List ℕ → ℕ
times v [] = 0
times v (x ∷ xs) = (if x == v then 1 else 0) + times v xs

times_append : (v : ℕ) (xs ys : List ℕ) → times v (xs ++ ys) ≡ times v xs + times v ys
times_append v [] ys = omega arith
times_append v (x ∷ xs) ys = omega (arith, times_append v xs ys)

zero_if : (b : Bool) (t : ℕ) → (if b then 1 else 0) + t ≡ 0 → (b ≡ false) × (t ≡ 0)
zero_if true t h = absurd (omega (arith, h))
zero_if false t h = (refl, omega (arith, h))

one_if : (b : Bool) (t : ℕ) → (if b then 1 else 0) + t ≡ 1 → ((b ≡ true) × (t ≡ 0)) ⊎ ((b ≡ false) × (t ≡ 1))
one_if true t h = inl (refl, omega (arith, h))
one_if false t h = inr (refl, omega (arith, h))

-- ---- one place
never : (v : ℕ) (xs : List ℕ) → times v xs ≡ 0 → (from to : ℕ) → has (drop from (take to xs)) v ≡ false
never v xs h from zero = ap (λ l. has l v) (drop_nothing from)
never v [] h from (suc to) = ap (λ l. has l v) (drop_nothing from)
never v (x ∷ xs) h zero (suc to) =
    let ne : (x == v) ≡ false = (zero_if (x == v) (times v xs) h).0 in
    ap (λ b. b || has (take to xs) v) ne ∙ never v xs (zero_if (x == v) (times v xs) h).1 0 to
never v (x ∷ xs) h (suc from) (suc to) = never v xs (zero_if (x == v) (times v xs) h).1 from to

suc_le : (a b : ℕ) → nat_le (suc a) (suc b) ≡ nat_le a b
suc_le a b = elim (cases_le a b) [
  | inl h ↦ le-leb (suc a) (suc b) (omega (arith, h)) ∙ sym (le-leb a b h)
  | inr h ↦ lt-leb (suc a) (suc b) (omega (arith, h)) ∙ sym (lt-leb a b h)
]

abbrev inside : ℕ → ℕ → ℕ → Bool
inside from to p = nat_le from p && not (nat_le to p)

inside_none : (from p : ℕ) → inside from 0 p ≡ false
inside_none from p = ap (λ b. nat_le from p && not b) (le-leb 0 p (omega arith)) ∙ and-false (nat_le from p)

-- a number that is first, and nowhere else
here : (v x : ℕ) (xs : List ℕ) → (x == v) ≡ true → times v xs ≡ 0 → (from to : ℕ) → has (drop from (take to (x ∷ xs))) v ≡ inside from to 0
here v x xs e h from zero = ap (λ l. has l v) (drop_nothing from) ∙ sym (inside_none from 0)
here v x xs e h zero (suc to) = ap (λ b. b || has (take to xs) v) e ∙ sym (ap (λ b. b && not (nat_le (suc to) 0)) (le-leb 0 0 (omega arith)) ∙ ap not (lt-leb (suc to) 0 (omega arith)))
here v x xs e h (suc from) (suc to) = never v xs h from to ∙ sym (ap (λ b. b && not (nat_le (suc to) 0)) (lt-leb (suc from) 0 (omega arith)))

-- a number that is after the first
behind : (v x : ℕ) (xs : List ℕ) (p : ℕ) → (x == v) ≡ false → ((from to : ℕ) → has (drop from (take to xs)) v ≡ inside from to p) → (from to : ℕ) → has (drop from (take to (x ∷ xs))) v ≡ inside from to (suc p)
behind v x xs p e h from zero = ap (λ l. has l v) (drop_nothing from) ∙ sym (inside_none from (suc p))
behind v x xs p e h zero (suc to) =
    ap (λ b. b || has (take to xs) v) e ∙ h 0 to
    ∙ ap (λ b. b && not (nat_le to p)) (le-leb 0 p (omega arith) ∙ sym (le-leb 0 (suc p) (omega arith)))
    ∙ ap (λ b. nat_le 0 (suc p) && not b) (sym (suc_le to p))
behind v x xs p e h (suc from) (suc to) =
    h from to ∙ ap (λ b. b && not (nat_le to p)) (sym (suc_le from p)) ∙ ap (λ b. nat_le (suc from) (suc p) && not b) (sym (suc_le to p))

one_place : (v : ℕ) (xs : List ℕ) → times v xs ≡ 1 → (p : ℕ) × ((from to : ℕ) → has (drop from (take to xs)) v ≡ inside from to p)
one_place v [] h = absurd (omega (arith, h))
one_place v (x ∷ xs) h = elim (one_if (x == v) (times v xs) h) [
  | inl a ↦ (0, here v x xs a.0 a.1)
  | inr b ↦ let rest : (p : ℕ) × ((from to : ℕ) → has (drop from (take to xs)) v ≡ inside from to p) = one_place v xs b.1 in (suc rest.0, behind v x xs rest.0 b.0 rest.1)
]

-- ---- the lists of the nodes
before_none : (low high v : ℕ) (l : List ℕ) → IsAscendingWithin low high l → v < low → (times v l ≡ 0) × (has l v ≡ false)
before_none low high v [] a h = (refl, refl)
before_none low high v (x ∷ l) a h =
    let rest = before_none (x + 1) high v l a.2 (omega (arith, a.0, h)) in
    let ne : (x == v) ≡ false = ne_eqb x v (λ e. omega (arith, e, a.0, h)) in
    (none_of (x == v) (times v l) ne rest.0, ap (λ b. b || has l v) ne ∙ rest.1)
  where
    none_of : (b : Bool) (t : ℕ) → b ≡ false → t ≡ 0 → (if b then 1 else 0) + t ≡ 0
    none_of true t e k = absurd (false≢true (sym e))
    none_of false t e k = omega (arith, k)

-- an ascending list has a number once or not at all
ascending_times : (low high v : ℕ) (l : List ℕ) → IsAscendingWithin low high l → times v l ≡ (if has l v then 1 else 0)
ascending_times low high v [] a = refl
ascending_times low high v (x ∷ l) a =
    both (x == v) (has l v) (times v l) (λ e. let same : x ≡ v = eqb-true x v e in (before_none (x + 1) high v l a.2 (omega (arith, same))).0) (ascending_times (x + 1) high v l a.2)
  where
    both : (b c : Bool) (t : ℕ) → (b ≡ true → t ≡ 0) → t ≡ (if c then 1 else 0) → (if b then 1 else 0) + t ≡ (if (b || c) then 1 else 0)
    both true c t f e = let none : t ≡ 0 = f refl in omega (arith, none)
    both false c t f e = let zero_plus : 0 + t ≡ t = omega arith in zero_plus ∙ e

all_times : (n v : ℕ) (ls : List (List ℕ)) → All (IsAscendingWithin 1 n) ls → times v (concat ls) ≡ length (filter (λ l. has l v) ls)
all_times n v [] a = refl
all_times n v (l ∷ ls) a =
    times_append v l (concat ls) ∙ more (has l v) l (filter (λ l. has l v) ls) (times v l) (times v (concat ls))
    (ascending_times 1 n v l (All-head (IsAscendingWithin 1 n) l ls a)) (all_times n v ls (All-tail (IsAscendingWithin 1 n) l ls a))
  where
    more : (b : Bool) (l : List ℕ) (ls : List (List ℕ)) (t r : ℕ) → t ≡ (if b then 1 else 0) → r ≡ length ls → t + r ≡ length (if b then l ∷ ls else ls)
    more true l ls t r e f = let one : t ≡ 1 = e in omega (arith, one, f)
    more false l ls t r e f = let none : t ≡ 0 = e in omega (arith, none, f)

pub each_once : (n : ℕ) (root : Node) → IsCactus n root → AreOnce n (concat (entered root))
each_once n root h v low high =
    let one : times v (concat (entered root)) ≡ 1 = all_times n v (entered root) h.ascending ∙ h.in_one_node v low high in
    let p = one_place v (concat (entered root)) one in
    (p.0, λ r. p.1 r.from r.to)

-- a number that is in a list exactly once is in it
times_has : (v : ℕ) (xs : List ℕ) → times v xs ≡ 1 → has xs v ≡ true
times_has v [] h = absurd (omega (arith, h))
times_has v (x ∷ xs) h = elim (one_if (x == v) (times v xs) h) [
  | inl a ↦ ap (λ b. b || has xs v) a.0
  | inr b ↦ ap (λ c. c || has xs v) b.0 ∙ times_has v xs b.1
]

pub each_there : (n : ℕ) (root : Node) → IsCactus n root → (v : ℕ) → 1 ≤ v → v ≤ n → has (concat (entered root)) v ≡ true
each_there n root h v low high = times_has v (concat (entered root)) (all_times n v (entered root) h.ascending ∙ h.in_one_node v low high)

ascending_vertices : (low n : ℕ) (l : List ℕ) → 1 ≤ low → IsAscendingWithin low n l → All (IsVertex n) l
ascending_vertices low n [] h a = All-nil (IsVertex n)
ascending_vertices low n (x ∷ l) h a = All-cons (IsVertex n) x l (omega (arith, h, a.0), a.1) (ascending_vertices (x + 1) n l (omega arith) a.2)

lists_vertices : (n : ℕ) (ls : List (List ℕ)) → All (IsAscendingWithin 1 n) ls → All (IsVertex n) (concat ls)
lists_vertices n [] a = All-nil (IsVertex n)
lists_vertices n (l ∷ ls) a =
    All-append (IsVertex n) l (concat ls) (ascending_vertices 1 n l (omega arith) (All-head (IsAscendingWithin 1 n) l ls a)) (lists_vertices n ls (All-tail (IsAscendingWithin 1 n) l ls a))

pub all_vertices_within : (n : ℕ) (root : Node) → IsCactus n root → All (IsVertex n) (concat (entered root))
all_vertices_within n root h = lists_vertices n (entered root) h.ascending
