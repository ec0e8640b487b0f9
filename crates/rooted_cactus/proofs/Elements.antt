-- Elements of a list at the places of a range, and the change of a set from one range to another.
use Rattle.std.proofs.Common.{◌≡◌, ℕ, zero, suc, ◌+◌, ◌≤◌, ◌<◌, min, max, Bool, true, false, not, ◌&&◌, ◌||◌, ◌==◌, ◌⊎◌, inl, inr, List, [], ◌∷◌, ◌++◌, length, get_or, take, drop, ap, ◌∙◌, sym, refl, arith}
use Rattle.std.specs.Prelude.{nat_le}
use Rattle.std.proofs.Math.Seq.{take-suc}
use Rattle.std.proofs.lemmas.Bool.{le-leb, lt-leb}
use Rattle.std.proofs.Math.Bool.{and-true, or-false}
use Rattle.cut_definitions.proofs.Numbers.{cases_le}
use Rattle.cut_definitions.proofs.Bools.{or_assoc}
use Rattle.cut_definitions.specs.Weight.{VertexSet, either, minus}
use Rattle.cut_definitions.specs.Cuts.{has}
use Rattle.cut_definitions.specs.Scan.{single}
use Rattle.vertex_set.specs.Side.{VertexList, listed}
use Rattle.vertex_set.proofs.Bits.{listed-none, listed-same, has-listed}
use Rattle.rooted_cactus.specs.CutRanges.{Range, elements_at}
use Rattle.rooted_cactus.specs.Places.{AreOnce, side_at}

abbrev range : ℕ → ℕ → Range
range from to = record { from = from; to = to }

pub drop_nothing : {X : Type 0} (k : ℕ) → drop {A = X} k [] ≡ []
drop_nothing zero = refl
drop_nothing (suc k) = refl

-- no element is at a place from `from` on and before a place that is not greater
pub elements_none : {X : Type 0} (xs : List X) (from to : ℕ) → to ≤ from → drop from (take to xs) ≡ []
elements_none xs from zero h = drop_nothing from
elements_none [] from (suc to) h = drop_nothing from
elements_none (x ∷ xs) zero (suc to) h = absurd (omega (arith, h))
elements_none (x ∷ xs) (suc from) (suc to) h = elements_none xs from to (omega (arith, h))

drop_push : {X : Type 0} (k : ℕ) (xs : List X) (x : X) → k ≤ length xs → drop k (xs ++ x ∷ []) ≡ drop k xs ++ x ∷ []
drop_push zero xs x h = refl
drop_push (suc k) [] x h = absurd (omega (arith, h))
drop_push (suc k) (y ∷ xs) x h = drop_push k xs x (omega (arith, h))

take_length : {X : Type 0} (k : ℕ) (xs : List X) → k ≤ length xs → length (take k xs) ≡ k
take_length zero xs h = refl
take_length (suc k) [] h = absurd (omega (arith, h))
take_length (suc k) (x ∷ xs) h = ap suc (take_length k xs (omega (arith, h)))

pub elements_more : (xs : List ℕ) (from place : ℕ) → from ≤ place → place < length xs → drop from (take (place + 1) xs) ≡ drop from (take place xs) ++ get_or xs place 0 ∷ []
elements_more xs from place h within =
    let next : place + 1 ≡ suc place = omega arith in
    let few : from ≤ length (take place xs) = omega (arith, h, within, take_length place xs (omega (arith, within))) in
    ap (λ k. drop from (take k xs)) next ∙ ap (drop from) (take-suc xs place 0 within) ∙ drop_push from (take place xs) (get_or xs place 0) few

pub has_push : (xs : List ℕ) (x u : ℕ) → has (xs ++ x ∷ []) u ≡ (has xs u || (x == u))
has_push [] x u = or-false (x == u)
has_push (y ∷ xs) x u = ap (λ b. (y == u) || b) (has_push xs x u) ∙ or_assoc (y == u) (has xs u) (x == u)

-- at the end of a loop over the places of a range
pub elements_done : (xs : List ℕ) (from to place : ℕ) → from ≤ place → to ≤ place → place ≤ max from to → elements_at xs (range from place) ≡ elements_at xs (range from to)
elements_done xs from to place f t h = elim (le_or from to) [
  | inl a ↦ let e : place ≡ to = omega (arith, f, t, h, a) in ap (λ k. drop from (take k xs)) e
  | inr b ↦ let e : place ≡ from = omega (arith, f, t, h, b) in elements_none xs from place (omega (arith, e)) ∙ sym (elements_none xs from to b)
]
  where
    le_or : (a b : ℕ) → (a ≤ b) ⊎ (b ≤ a)
    le_or a b = grind arith

minus_or : (a b c d : Bool) → d ≡ (b || c) → ((a && not b) && not c) ≡ (a && not d)
minus_or true true true d h = grind arith
minus_or true true false d h = grind arith
minus_or true false true d h = grind arith
minus_or true false false d h = grind arith
minus_or false b c d h = grind arith

pub one_taken : (n : ℕ) (s : VertexSet) (xs : List ℕ) (from place : ℕ) (mid new : VertexList) → from ≤ place → place < length xs → mid.vertices ≡ n → mid ≡ listed n (minus s (has (elements_at xs (range from place)))) →
    new ≡ listed mid.vertices (minus (has mid.members) (single (get_or xs place 0))) → new ≡ listed n (minus s (has (elements_at xs (range from (place + 1)))))
one_taken n s xs from place mid new h within same is step =
    let x = get_or xs place 0 in
    let e = elements_at xs (range from place) in
    step ∙ ap (λ k. listed k (minus (has mid.members) (single x))) same
    ∙ listed-same n (minus (has mid.members) (single x)) (minus s (has (elements_at xs (range from (place + 1)))))
    (λ u a b. ap (λ c. c && not (x == u)) (ap (λ (m : VertexList). has m.members u) is ∙ has-listed n (minus s (has e)) u a b)
    ∙ minus_or (s u) (has e u) (x == u) (has (elements_at xs (range from (place + 1))) u) (ap (λ l. has l u) (elements_more xs from place h within) ∙ has_push e x u))

either_or : (a b c d : Bool) → d ≡ (b || c) → ((a || b) || c) ≡ (a || d)
either_or a b c d h = sym (or_assoc a b c) ∙ ap (λ y. a || y) (sym h)

pub one_put : (n : ℕ) (s : VertexSet) (xs : List ℕ) (from place : ℕ) (mid new : VertexList) → from ≤ place → place < length xs → mid.vertices ≡ n → mid ≡ listed n (either s (has (elements_at xs (range from place)))) →
    new ≡ listed mid.vertices (either (has mid.members) (single (get_or xs place 0))) → new ≡ listed n (either s (has (elements_at xs (range from (place + 1)))))
one_put n s xs from place mid new h within same is step =
    let x = get_or xs place 0 in
    let e = elements_at xs (range from place) in
    step ∙ ap (λ k. listed k (either (has mid.members) (single x))) same
    ∙ listed-same n (either (has mid.members) (single x)) (either s (has (elements_at xs (range from (place + 1)))))
    (λ u a b. ap (λ c. c || (x == u)) (ap (λ (m : VertexList). has m.members u) is ∙ has-listed n (either s (has e)) u a b)
    ∙ either_or (s u) (has e u) (x == u) (has (elements_at xs (range from (place + 1))) u) (ap (λ l. has l u) (elements_more xs from place h within) ∙ has_push e x u))

-- ---- from one range to another
le_min : (b c p : ℕ) → nat_le (min b c) p ≡ (nat_le b p || nat_le c p)
le_min b c p = elim (cases_le b p) [
  | inl x ↦ le-leb (min b c) p (omega (arith, x)) ∙ sym (ap (λ y. y || nat_le c p) (le-leb b p x))
  | inr x ↦ elim (cases_le c p) [
    | inl y ↦ le-leb (min b c) p (omega (arith, y)) ∙ sym (ap (λ z. z || nat_le c p) (lt-leb b p x) ∙ le-leb c p y)
    | inr y ↦ lt-leb (min b c) p (omega (arith, x, y)) ∙ sym (ap (λ z. z || nat_le c p) (lt-leb b p x) ∙ lt-leb c p y)
  ]
]

le_max : (a d p : ℕ) → nat_le (max a d) p ≡ (nat_le a p && nat_le d p)
le_max a d p = elim (cases_le a p) [
  | inl x ↦ elim (cases_le d p) [
    | inl y ↦ le-leb (max a d) p (omega (arith, x, y)) ∙ sym (ap (λ z. z && nat_le d p) (le-leb a p x) ∙ le-leb d p y)
    | inr y ↦ lt-leb (max a d) p (omega (arith, y)) ∙ sym (ap (λ z. z && nat_le d p) (le-leb a p x) ∙ lt-leb d p y)
  ]
  | inr x ↦ lt-leb (max a d) p (omega (arith, x)) ∙ sym (ap (λ z. z && nat_le d p) (lt-leb a p x))
]

abbrev moved : Bool → Bool → Bool → Bool → Bool
moved a b c d = ((((a && not b) && not (a && not (b || c))) && not ((a && d) && not b)) || (c && not (d || a))) || ((c && b) && not d)

moved_right : (a b c d : Bool) → moved a b c d ≡ (c && not d)
moved_right true true true true = refl
moved_right true true true false = refl
moved_right true true false true = refl
moved_right true true false false = refl
moved_right true false true true = refl
moved_right true false true false = refl
moved_right true false false true = refl
moved_right true false false false = refl
moved_right false true true true = refl
moved_right false true true false = refl
moved_right false true false true = refl
moved_right false true false false = refl
moved_right false false true true = refl
moved_right false false true false = refl
moved_right false false false true = refl
moved_right false false false false = refl

-- a set from which nothing is taken, and to which nothing is added
pub none_taken : (s : VertexSet) (xs : List ℕ) (from : ℕ) → s ≡ minus s (has (elements_at xs (range from from)))
none_taken s xs from = λ i v. same v i
  where
    same : (v : ℕ) → s v ≡ (s v && not (has (elements_at xs (range from from)) v))
    same v = sym (and-true (s v)) ∙ ap (λ l. s v && not (has l v)) (sym (elements_none xs from from (omega arith)))

pub none_put : (s : VertexSet) (xs : List ℕ) (from : ℕ) → s ≡ either s (has (elements_at xs (range from from)))
none_put s xs from = λ i v. same v i
  where
    same : (v : ℕ) → s v ≡ (s v || has (elements_at xs (range from from)) v)
    same v = sym (or-false (s v)) ∙ ap (λ l. s v || has l v) (sym (elements_none xs from from (omega arith)))

abbrev steps : List ℕ → ℕ → ℕ → ℕ → ℕ → VertexSet
steps xs a b c d =
    either (either (minus (minus (has (elements_at xs (range a b))) (has (elements_at xs (range a (min b c))))) (has (elements_at xs (range (max a d) b)))) (has (elements_at xs (range c (min d a))))) (has (elements_at xs (range (max c b) d)))

steps_same : (n : ℕ) (xs : List ℕ) (a b c d : ℕ) → AreOnce n xs → (u : ℕ) → 1 ≤ u → u ≤ n → steps xs a b c d u ≡ has (elements_at xs (range c d)) u
steps_same n xs a b c d once u l m =
    let p = (once u l m).0 in
    let at = (once u l m).1 in
    let A = nat_le a p in
    let B = nat_le b p in
    let C = nat_le c p in
    let D = nat_le d p in
    let e1 = elements_at xs (range a (min b c)) in
    let e2 = elements_at xs (range (max a d) b) in
    let e3 = elements_at xs (range c (min d a)) in
    let e4 = elements_at xs (range (max c b) d) in
    let x1 : has e1 u ≡ (A && not (B || C)) = at (range a (min b c)) ∙ ap (λ z. A && not z) (le_min b c p) in
    let x2 : has e2 u ≡ ((A && D) && not B) = at (range (max a d) b) ∙ ap (λ z. z && not B) (le_max a d p) in
    let x3 : has e3 u ≡ (C && not (D || A)) = at (range c (min d a)) ∙ ap (λ z. C && not z) (le_min d a p) in
    let x4 : has e4 u ≡ ((C && B) && not D) = at (range (max c b) d) ∙ ap (λ z. z && not D) (le_max c b p) in
    ap (λ z. (((z && not (has e1 u)) && not (has e2 u)) || has e3 u) || has e4 u) (at (range a b))
    ∙ ap (λ z. ((((A && not B) && not z) && not (has e2 u)) || has e3 u) || has e4 u) x1
    ∙ ap (λ z. ((((A && not B) && not (A && not (B || C))) && not z) || has e3 u) || has e4 u) x2
    ∙ ap (λ z. ((((A && not B) && not (A && not (B || C))) && not ((A && D) && not B)) || z) || has e4 u) x3
    ∙ ap (λ z. ((((A && not B) && not (A && not (B || C))) && not ((A && D) && not B)) || (C && not (D || A))) || z) x4
    ∙ moved_right A B C D ∙ sym (at (range c d))

-- a side from which the vertices of two ranges are taken, and to which those of two ranges are added
pub changed : (n : ℕ) (xs : List ℕ) (a b c d : ℕ) (s0 s1 s2 s3 s4 : VertexList) → AreOnce n xs → s0.vertices ≡ n → s1.vertices ≡ s0.vertices → s2.vertices ≡ s1.vertices → s3.vertices ≡ s2.vertices →
    s0 ≡ listed s0.vertices (has (elements_at xs (range a b))) →
    ((s : VertexSet) → s0 ≡ listed s0.vertices s → s1 ≡ listed s0.vertices (minus s (has (elements_at xs (range a (min b c)))))) →
    ((s : VertexSet) → s1 ≡ listed s1.vertices s → s2 ≡ listed s1.vertices (minus s (has (elements_at xs (range (max a d) b))))) →
    ((s : VertexSet) → s2 ≡ listed s2.vertices s → s3 ≡ listed s2.vertices (either s (has (elements_at xs (range c (min d a)))))) →
    ((s : VertexSet) → s3 ≡ listed s3.vertices s → s4 ≡ listed s3.vertices (either s (has (elements_at xs (range (max c b) d))))) →
    s4 ≡ listed s0.vertices (has (elements_at xs (range c d)))
changed n xs a b c d s0 s1 s2 s3 s4 once n0 n1 n2 n3 h0 h1 h2 h3 h4 =
    let i0 = has (elements_at xs (range a b)) in
    let i1 = minus i0 (has (elements_at xs (range a (min b c)))) in
    let i2 = minus i1 (has (elements_at xs (range (max a d) b))) in
    let i3 = either i2 (has (elements_at xs (range c (min d a)))) in
    let g1 : s1 ≡ listed s1.vertices i1 = h1 i0 h0 ∙ ap (λ k. listed k i1) (sym n1) in
    let g2 : s2 ≡ listed s2.vertices i2 = h2 i1 g1 ∙ ap (λ k. listed k i2) (sym n2) in
    let g3 : s3 ≡ listed s3.vertices i3 = h3 i2 g2 ∙ ap (λ k. listed k i3) (sym n3) in
    let whole : s3.vertices ≡ s0.vertices = n3 ∙ n2 ∙ n1 in
    h4 i3 g3 ∙ ap (λ k. listed k (steps xs a b c d)) whole
    ∙ listed-same s0.vertices (steps xs a b c d) (has (elements_at xs (range c d))) (λ u l m. steps_same n xs a b c d once u l (omega (arith, m, n0)))

-- a side from which the vertices of two ranges are taken, and to which those of two ranges are added, by bounds that were computed before
pub changed_to : (n : ℕ) (xs : List ℕ) (a b c d m1 m2 m3 m4 : ℕ) (s0 s1 s2 s3 s4 : VertexList) → m1 ≡ min b c → m2 ≡ max a d → m3 ≡ min d a → m4 ≡ max c b → AreOnce n xs → s0.vertices ≡ n → s1.vertices ≡ s0.vertices → s2.vertices ≡ s1.vertices → s3.vertices ≡ s2.vertices →
    s0 ≡ listed s0.vertices (has (elements_at xs (range a b))) →
    ((s : VertexSet) → s0 ≡ listed s0.vertices s → s1 ≡ listed s0.vertices (minus s (has (elements_at xs (range a m1))))) →
    ((s : VertexSet) → s1 ≡ listed s1.vertices s → s2 ≡ listed s1.vertices (minus s (has (elements_at xs (range m2 b))))) →
    ((s : VertexSet) → s2 ≡ listed s2.vertices s → s3 ≡ listed s2.vertices (either s (has (elements_at xs (range c m3))))) →
    ((s : VertexSet) → s3 ≡ listed s3.vertices s → s4 ≡ listed s3.vertices (either s (has (elements_at xs (range m4 d))))) →
    s4 ≡ listed s0.vertices (has (elements_at xs (range c d)))
changed_to n xs a b c d m1 m2 m3 m4 s0 s1 s2 s3 s4 e1 e2 e3 e4 once n0 n1 n2 n3 h0 h1 h2 h3 h4 =
    changed n xs a b c d s0 s1 s2 s3 s4 once n0 n1 n2 n3 h0
    (λ s h. h1 s h ∙ ap (λ k. listed s0.vertices (minus s (has (elements_at xs (range a k))))) e1)
    (λ s h. h2 s h ∙ ap (λ k. listed s1.vertices (minus s (has (elements_at xs (range k b))))) e2)
    (λ s h. h3 s h ∙ ap (λ k. listed s2.vertices (either s (has (elements_at xs (range c k))))) e3)
    (λ s h. h4 s h ∙ ap (λ k. listed s3.vertices (either s (has (elements_at xs (range k d))))) e4)

-- an empty side into which the vertices at the places of a range were put
pub side_filled : (n : ℕ) (order : List ℕ) (r : Range) (empty side : VertexList) → empty ≡ record { vertices = n; members = [] } →
    ((s : VertexSet) → empty ≡ listed empty.vertices s → side ≡ listed empty.vertices (either s (has (elements_at order r)))) → side.members ≡ side_at n order r
side_filled n order r empty side is put =
    let same : empty.vertices ≡ n = ap (λ (s : VertexList). s.vertices) is in
    let none : empty ≡ listed empty.vertices (has []) = is ∙ sym (listed-none n (has []) (λ v. refl)) ∙ ap (λ k. listed k (has [])) (sym same) in
    ap (λ (s : VertexList). s.members) (put (has []) none) ∙ ap (λ k. side_at k order r) same
