-- The weight of a set of classes in the contracted graph is the weight of the vertices of these classes.
use Rattle.std.proofs.Common.{◌≡◌, ℕ, zero, suc, ◌+◌, ◌-◌, ◌<◌, ◌≤◌, ◌⊎◌, inl, inr, ⊎_elim, Bool, true, false, not, ◌&&◌, ◌||◌, List, [], ◌∷◌, map, eqb, ltb, length, refl, sym, ◌∙◌, ap, arith}
use Rattle.std.specs.Prelude.{◌≢◌, if◌then◌else◌}
use Rattle.std.specs.List.{filter, flat_map, sum_by, range_with_len}
use Rattle.std.proofs.lemmas.Bool.{cases_eq, cases_order, cases_Bool, eq-eqb}
use Rattle.std.proofs.lemmas.Bool.Decides.{nat_tests}
use Rattle.std.proofs.lemmas.List.Elements.{All-weaker}
use Rattle.std.proofs.lemmas.List.Sums.{sum_by-cons, sum_by-append}
use Rattle.cut_definitions.specs.declared.edge_list.Edge.{Edge}
use Rattle.cut_definitions.specs.Graph.{Graph, IsGraph, IsEdgeWithin}
use Rattle.cut_definitions.specs.Weight.{VertexSet, weight, between}
use Rattle.cut_definitions.specs.Cuts.{has}
use Rattle.cut_definitions.specs.Contraction.{label, classes, class, pairs, relabel, lift, lifted}
use Rattle.cut_definitions.proofs.Sums.{sum_by-plus, sum_by-same, sum_by-same_on, sum_by-none}
use Rattle.cut_definitions.proofs.WeightLaws.{cut_of, cut_term, join_of, join_term}
use Rattle.cut_definitions.proofs.Bridge.{has_within, weight-agree}
use Rattle.cut_definitions.proofs.Numbers.{not_positive}

-- ---- sums over maps, joined lists and ranges

pub sum_by-map : {X Y : Type 0} (f : Y → ℕ) (h : X → Y) (xs : List X) → sum_by f (map h xs) ≡ sum_by (λ x. f (h x)) xs
sum_by-map f h [] = refl
sum_by-map f h (x ∷ xs) = omega (arith, sum_by-cons f (h x) (map h xs), sum_by-cons (λ z. f (h z)) x xs, sum_by-map f h xs)

pub sum_by-flat_map : {X Y : Type 0} (f : Y → ℕ) (h : X → List Y) (xs : List X) → sum_by f (flat_map h xs) ≡ sum_by (λ x. sum_by f (h x)) xs
sum_by-flat_map f h [] = refl
sum_by-flat_map f h (x ∷ xs) =
    omega (arith, sum_by-append f (h x) (flat_map h xs), sum_by-cons (λ z. sum_by f (h z)) x xs, sum_by-flat_map f h xs)

-- what is left out of a filter adds nothing if its term is 0
pub sum_by-filter : {X : Type 0} (f : X → ℕ) (p : X → Bool) → ((x : X) → p x ≡ false → f x ≡ 0) → (xs : List X) → sum_by f (filter p xs) ≡ sum_by f xs
sum_by-filter f p h [] = refl
sum_by-filter f p h (x ∷ xs) =
    let rest = sum_by-filter f p h xs in
    ⊎_elim
    (λ (e : p x ≡ true). rw e (omega (arith, sum_by-cons f x xs, sum_by-cons f x (filter p xs), rest)))
    (λ (e : p x ≡ false). rw e (omega (arith, sum_by-cons f x xs, h x e, rest)))
    (cases_Bool (p x))

-- two sums one within the other may change places
pub sum_by-swap : {X Y : Type 0} (f : X → Y → ℕ) (xs : List X) (ys : List Y) →
    sum_by (λ x. sum_by (f x) ys) xs ≡ sum_by (λ y. sum_by (λ x. f x y) xs) ys
sum_by-swap f [] ys = sym (sum_by-none (λ y. 0) (λ y. refl) ys)
sum_by-swap f (x ∷ xs) ys =
    omega (
      arith,
      sum_by-cons (λ z. sum_by (f z) ys) x xs,
      sum_by-swap f xs ys,
      sum_by-plus (f x) (λ y. sum_by (λ z. f z y) xs) ys,
      sum_by-same (λ y. sum_by (λ z. f z y) (x ∷ xs)) (λ y. f x y + sum_by (λ z. f z y) xs) (λ y. sum_by-cons (λ z. f z y) x xs) ys,
    )

sum_by-range_none : (f : ℕ → ℕ) (m low : ℕ) → ((i : ℕ) → low ≤ i → f i ≡ 0) → sum_by f (range_with_len low m) ≡ 0
sum_by-range_none f zero low none = refl
sum_by-range_none f (suc m) low none =
    omega (arith, sum_by-cons f low (range_with_len (low + 1) m), none low (omega arith), sum_by-range_none f m (low + 1) (λ i l. none i (omega arith)))

-- a sum over a range with one term that may be above 0
sum_by-range_one : (f : ℕ → ℕ) (m low a : ℕ) → low ≤ a → a < low + m → ((i : ℕ) → low ≤ i → i ≢ a → f i ≡ 0) → sum_by f (range_with_len low m) ≡ f a
sum_by-range_one f zero low a l u none = absurd (omega arith)
sum_by-range_one f (suc m) low a l u none =
    ⊎_elim
    (λ (e : low ≡ a). let last : sum_by f (range_with_len (low + 1) m) ≡ 0 = sum_by-range_none f m (low + 1) (λ i g. none i (omega arith) (λ q. omega arith)) in
    let same : f low ≡ f a = ap f e in
    omega (arith, sum_by-cons f low (range_with_len (low + 1) m)))
    (λ (ne : low ≢ a). omega (
      arith,
      sum_by-cons f low (range_with_len (low + 1) m),
      none low (omega arith) ne,
      sum_by-range_one f m (low + 1) a (omega arith) (omega arith) (λ i g. none i (omega arith)),
    ))
    (cases_eq low a)

sum_by-pairs : (f : ℕ × ℕ → ℕ) (n : ℕ) →
    sum_by f (pairs n) ≡ sum_by (λ i. sum_by (λ j. f (i, j)) (range_with_len (i + 1) (n - i))) (range_with_len 1 n)
sum_by-pairs f n =
    sum_by-flat_map f (λ i. map (λ j. (i, j)) (range_with_len (i + 1) (n - i))) (range_with_len 1 n)
    ∙ sum_by-same (λ i. sum_by f (map (λ j. (i, j)) (range_with_len (i + 1) (n - i)))) (λ i. sum_by (λ j. f (i, j)) (range_with_len (i + 1) (n - i)))
    (λ i. sum_by-map f (λ j. (i, j)) (range_with_len (i + 1) (n - i))) (range_with_len 1 n)

-- a sum over the pairs with no term above 0, and with one that may be
pub sum_by-pairs_none : (f : ℕ × ℕ → ℕ) (n : ℕ) → ((i j : ℕ) → i < j → f (i, j) ≡ 0) → sum_by f (pairs n) ≡ 0
sum_by-pairs_none f n none =
    sum_by-pairs f n
    ∙ sum_by-none (λ i. sum_by (λ j. f (i, j)) (range_with_len (i + 1) (n - i)))
    (λ i. sum_by-range_none (λ j. f (i, j)) (n - i) (i + 1) (λ j l. none i j (omega arith))) (range_with_len 1 n)

pub sum_by-pairs_one : (f : ℕ × ℕ → ℕ) (n a b : ℕ) → 1 ≤ a → a < b → b ≤ n → ((i j : ℕ) → i < j → (i ≢ a) ⊎ (j ≢ b) → f (i, j) ≡ 0) → sum_by f (pairs n) ≡ f (a, b)
sum_by-pairs_one f n a b one lt le none =
    sum_by-pairs f n
    ∙ (sum_by-range_one (λ i. sum_by (λ j. f (i, j)) (range_with_len (i + 1) (n - i))) n 1 a one (omega arith)
    (λ i l ne. sum_by-range_none (λ j. f (i, j)) (n - i) (i + 1) (λ j m. none i j (omega arith) (inl ne)))
    ∙ sum_by-range_one (λ j. f (a, j)) (n - a) (a + 1) b (omega arith) (omega arith) (λ j l ne. none a j (omega arith) (inr ne)))

-- ---- the weight in the contracted graph

cut_of-sum : {X : Type 0} (a b : Bool) (f : X → ℕ) (xs : List X) → cut_of a b (sum_by f xs) ≡ sum_by (λ x. cut_of a b (f x)) xs
cut_of-sum a b f xs =
    elim (if a then not b else b) as (λ c. (if c then sum_by f xs else 0) ≡ sum_by (λ x. if c then f x else 0) xs)
    [ true ↦ refl | false ↦ sym (sum_by-none (λ x. 0) (λ x. refl) xs) ]

-- what an edge whose ends have the classes a and b adds to the weight between the classes i and j, if a set has these or not
abbrev class_term : VertexSet → ℕ → ℕ → ℕ → ℕ × ℕ → ℕ
class_term s a b w p = cut_of (s p.0) (s p.1) (join_of (eqb a p.0) (eqb b p.0) (eqb a p.1) (eqb b p.1) w)

pub cut_of-zero : (a b : Bool) → cut_of a b 0 ≡ 0
cut_of-zero a b = grind arith

cut_of-flip : (a b : Bool) (w : ℕ) → cut_of a b w ≡ cut_of b a w
cut_of-flip a b w = grind arith

cut_of-same : (a : Bool) (w : ℕ) → cut_of a a w ≡ 0
cut_of-same a w = grind arith

pub join_nowhere : (a b i j w : ℕ) → i < j → (a ≡ i → b ≢ j) → (a ≡ j → b ≢ i) → join_of (eqb a i) (eqb b i) (eqb a j) (eqb b j) w ≡ 0
join_nowhere a b i j w l m n = grind (arith, nat_tests)

pub join_here : (a b w : ℕ) → join_of (eqb a a) (eqb b a) (eqb a b) (eqb b b) w ≡ w
join_here a b w = rw (eq-eqb a a refl, eq-eqb b b refl) refl

pick_or_true : (c : Bool) (w : ℕ) → (if c || true then w else 0) ≡ w
pick_or_true c w = grind arith

pub join_there : (a b w : ℕ) → join_of (eqb a b) (eqb b b) (eqb a a) (eqb b a) w ≡ w
join_there a b w = rw (eq-eqb a a refl, eq-eqb b b refl) (pick_or_true (eqb a b && eqb b a) w)

-- over all pairs of classes an edge adds what it adds by the classes of its ends
class_terms : (s : VertexSet) (n a b w : ℕ) → 1 ≤ a → a ≤ n → 1 ≤ b → b ≤ n → sum_by (class_term s a b w) (pairs n) ≡ cut_of (s a) (s b) w
class_terms s n a b w a1 an b1 bn =
    let gone = λ (i j : ℕ) (q : join_of (eqb a i) (eqb b i) (eqb a j) (eqb b j) w ≡ 0). ap (cut_of (s i) (s j)) q ∙ cut_of-zero (s i) (s j) in
    ⊎_elim
    (λ (e : a ≡ b).
    sum_by-pairs_none (class_term s a b w) n (λ i j l. gone i j (join_nowhere a b i j w l (λ p q. omega arith) (λ p q. omega arith)))
    ∙ (sym (cut_of-same (s a) w) ∙ ap (λ (c : ℕ). cut_of (s a) (s c) w) e))
    (⊎_elim
    (λ (l : a < b).
    sum_by-pairs_one (class_term s a b w) n a b a1 l bn
    (λ i j m ne. gone i j (join_nowhere a b i j w m
    (λ p q. ⊎_elim (λ (u : i ≢ a). u (sym p)) (λ (u : j ≢ b). u (sym q)) ne) (λ p q. omega arith)))
    ∙ ap (cut_of (s a) (s b)) (join_here a b w))
    (λ (l : b < a).
    sum_by-pairs_one (class_term s a b w) n b a b1 l an
    (λ i j m ne. gone i j (join_nowhere a b i j w m (λ p q. omega arith)
    (λ p q. ⊎_elim (λ (u : i ≢ b). u (sym q)) (λ (u : j ≢ a). u (sym p)) ne)))
    ∙ (ap (cut_of (s b) (s a)) (join_there a b w) ∙ cut_of-flip (s b) (s a) w)))
    (cases_order a b)

-- each vertex has a class of the contracted graph
pub record FitsGraph (g : Graph) (labels : List ℕ) : Type 0 where
  pub from_one : (v : ℕ) → 1 ≤ v → v ≤ g.vertices → 1 ≤ label labels v
  pub to_classes : (v : ℕ) → 1 ≤ v → v ≤ g.vertices → label labels v ≤ classes labels

-- the weight of a set in the contracted graph
pub weight-relabel : (g : Graph) → IsGraph g → (labels : List ℕ) → FitsGraph g labels → (s : VertexSet) →
    weight (relabel g labels) s ≡ weight g (lifted labels s)
unfolding relabel
weight-relabel g ok labels fits s =
    let k = classes labels in
    let make : ℕ × ℕ → Edge = λ p. record { u = p.0; v = p.1; w = between g (class labels p.0) (class labels p.1) } in
    let term = λ (p : ℕ × ℕ) (e : Edge). class_term s (label labels e.u) (label labels e.v) e.w p in
    sum_by-filter (cut_term s) (λ e. ltb 0 e.w) (λ e h. ap (cut_of (s e.u) (s e.v)) (not_positive e.w h) ∙ cut_of-zero (s e.u) (s e.v)) (map make (pairs k))
    ∙ (sum_by-map (cut_term s) make (pairs k)
    ∙ (sum_by-same (λ p. cut_term s (make p)) (λ p. sum_by (term p) g.edges)
    (λ p. cut_of-sum (s p.0) (s p.1) (join_term (class labels p.0) (class labels p.1)) g.edges) (pairs k)
    ∙ (sum_by-swap term (pairs k) g.edges
    ∙ sum_by-same_on (λ e. sum_by (λ p. term p e) (pairs k)) (cut_term (lifted labels s)) g.edges
    (All-weaker (IsEdgeWithin g.vertices) (λ e. sum_by (λ p. term p e) (pairs k) ≡ cut_term (lifted labels s) e)
    (λ e h.
    let u_in : e.u ≤ g.vertices = omega (arith, h.1, h.2) in
    let v_from : 1 ≤ e.v = omega (arith, h.0, h.1) in
    class_terms s k (label labels e.u) (label labels e.v) e.w
    (fits.from_one e.u h.0 u_in) (fits.to_classes e.u h.0 u_in) (fits.from_one e.v v_from h.2) (fits.to_classes e.v v_from h.2))
    g.edges ok.in_range))))

-- on the vertices the lift of a side is the vertices of its classes
pub has-lift : (labels side : List ℕ) (v : ℕ) → 1 ≤ v → v ≤ length labels → has (lift labels side) v ≡ has side (label labels v)
has-lift labels side v l u = has_within (length labels) 1 v (λ w. has side (label labels w)) l (omega arith)

-- a lifted side weighs what the side weighs in the contracted graph
pub weight-lift : (g : Graph) → IsGraph g → (labels : List ℕ) → FitsGraph g labels → length labels ≡ g.vertices → (side : List ℕ) →
    weight g (has (lift labels side)) ≡ weight (relabel g labels) (has side)
weight-lift g ok labels fits long side =
    weight-agree g ok (has (lift labels side)) (lifted labels (has side)) (λ v l u. has-lift labels side v l (omega arith))
    ∙ sym (weight-relabel g ok labels fits (has side))
