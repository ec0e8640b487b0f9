-- How many vertices the side at a range has: as many as the range has places.
use Rattle.std.proofs.Common.{◌≡◌, ℕ, zero, suc, ◌+◌, ◌-◌, ◌≤◌, ◌<◌, Bool, true, false, not, ◌&&◌, ◌||◌, ◌==◌, inl, inr, List, [], ◌∷◌, length, get_or, take, ap, ◌∙◌, sym, refl, arith}
use Rattle.std.specs.Prelude.{nat_le, if◌then◌else◌}
use Rattle.std.specs.List.{All, concat, filter, range_with_len}
use Rattle.std.proofs.lemmas.Bool.{cases_eq, eq-eqb, ne_eqb, false≢true, or_right, le-leb, lt-leb}
use Rattle.std.proofs.lemmas.List.Elements.{All-get_or}
use Rattle.std.proofs.Math.Bool.{and-false}
use Rattle.cut_definitions.proofs.Numbers.{cases_le}
use Rattle.cut_definitions.specs.Weight.{VertexSet}
use Rattle.cut_definitions.specs.Cuts.{has}
use Rattle.cut_definitions.proofs.Bools.{or_nothing}
use Rattle.vertex_set.specs.Side.{VertexList}
use Rattle.vertex_set.proofs.Bits.{filter-same, listed-none}
use Rattle.rooted_cactus.specs.CutRanges.{Range, elements_at}
use Rattle.rooted_cactus.specs.Places.{AreOnce, side_at}
use Rattle.cut_definitions.specs.Graph.{IsVertex}
use Rattle.rooted_cactus.specs.Entered.{entered}
use Rattle.rooted_cactus.specs.Rooted.{IsCactus}
use Rattle.rooted_cactus.specs.declared.tree.Node.{Node}
use Rattle.rooted_cactus.proofs.Elements.{elements_more, elements_none, has_push}
use Rattle.rooted_cactus.proofs.Once.{each_once, all_vertices_within, each_there}

abbrev range : ℕ → ℕ → Range
range from to = record { from = from; to = to }

-- ---- one more number in a set
-- a first element that one list keeps and the other does not
one_more : (b c : Bool) (x : ℕ) (k l : List ℕ) → b ≡ true → c ≡ false → k ≡ l → length (if b then x ∷ k else k) ≡ length (if c then x ∷ l else l) + 1
one_more false c x k l h g e = absurd (false≢true h)
one_more true true x k l h g e = absurd (false≢true (sym g))
one_more true false x k l h g e = omega (arith, ap length e)

-- a first element that both lists keep or neither does
no_more : (b c : Bool) (x : ℕ) (k l : List ℕ) → b ≡ c → length k ≡ length l + 1 → length (if b then x ∷ k else k) ≡ length (if c then x ∷ l else l) + 1
no_more true true x k l e h = omega (arith, h)
no_more true false x k l e h = absurd (false≢true (sym e))
no_more false true x k l e h = absurd (false≢true e)
no_more false false x k l e h = h

-- a set that gets one number of a range has one member more there
count_put : (s : VertexSet) (x m low : ℕ) → s x ≡ false → low ≤ x → x < low + m →
    length (filter (λ u. s u || (x == u)) (range_with_len low m)) ≡ length (filter s (range_with_len low m)) + 1
count_put s x zero low off l h = absurd (omega (arith, l, h))
count_put s x (suc m) low off l h = elim (cases_eq x low) [
  | inl e ↦
      one_more (s low || (x == low)) (s low) low (filter (λ u. s u || (x == u)) (range_with_len (low + 1) m)) (filter s (range_with_len (low + 1) m))
      (or_right (s low) (x == low) (eq-eqb x low e)) (ap s (sym e) ∙ off)
      (filter-same (λ u. s u || (x == u)) s m (low + 1) (λ v from to. or_nothing (s v) (x == v) (ne_eqb x v (λ same. omega (arith, e, from, same)))))
  | inr ne ↦
      no_more (s low || (x == low)) (s low) low (filter (λ u. s u || (x == u)) (range_with_len (low + 1) m)) (filter s (range_with_len (low + 1) m))
      (or_nothing (s low) (x == low) (ne_eqb x low ne)) (count_put s x m (low + 1) off (omega (arith, l, ne)) (omega (arith, h)))
]

-- ---- the place of an element
-- one place alone is in a range of one place
inside_at : (to p : ℕ) → (nat_le to p && not (nat_le (to + 1) p)) ≡ true → p ≡ to
inside_at to p h = elim (cases_le to p) [
  | inl below ↦ elim (cases_le (to + 1) p) [
    | inl above ↦ absurd (false≢true (sym (ap (λ b. nat_le to p && not b) (le-leb (to + 1) p above) ∙ and-false (nat_le to p)) ∙ h))
    | inr few ↦ omega (arith, below, few)
  ]
  | inr few ↦ absurd (false≢true (sym (ap (λ b. b && not (nat_le (to + 1) p)) (lt-leb to p few)) ∙ h))
]

-- an element is not among those at earlier places
pub not_before : (n : ℕ) (order : List ℕ) → AreOnce n order → (from to : ℕ) → to < length order → IsVertex n (get_or order to 0) → has (elements_at order (range from to)) (get_or order to 0) ≡ false
not_before n order once from to within at =
    let x = get_or order to 0 in
    let p = once x at.0 at.1 in
    let here : has (elements_at order (range to (to + 1))) x ≡ true =
    ap (λ l. has l x) (elements_more order to to (omega arith) within) ∙ has_push (elements_at order (range to to)) x x ∙ or_right (has (elements_at order (range to to)) x) (x == x) (eq-eqb x x refl) in
    let place : p.0 ≡ to = inside_at to p.0 (sym (p.1 (range to (to + 1))) ∙ here) in
    p.1 (range from to) ∙ ap (λ k. nat_le from k && not (nat_le to k)) place ∙ ap (λ b. nat_le from to && not b) (le-leb to to (omega arith)) ∙ and-false (nat_le from to)

-- ---- ranges
-- the side at a range of so many places has so many vertices
side_of_count : (n : ℕ) (order : List ℕ) → AreOnce n order → All (IsVertex n) order → (from count : ℕ) → from + count ≤ length order → length (side_at n order (range from (from + count))) ≡ count
side_of_count n order once all from zero h =
    let none : elements_at order (range from (from + 0)) ≡ [] = elements_none order from (from + 0) (omega arith) in
    ap (λ l. length (filter (has l) (range_with_len 1 n))) none ∙ ap (λ (x : VertexList). length x.members) (listed-none n (has []) (λ v. refl))
side_of_count n order once all from (suc count) h =
    let to = from + count in
    let x = get_or order to 0 in
    let at : IsVertex n x = All-get_or (IsVertex n) order to 0 (omega (arith, h)) all in
    let next : from + suc count ≡ to + 1 = omega arith in
    let before = has (elements_at order (range from to)) in
    ap (λ k. length (side_at n order (range from k))) next
    ∙ ap length (filter-same (has (elements_at order (range from (to + 1)))) (λ u. before u || (x == u)) n 1
    (λ v l m. ap (λ e. has e v) (elements_more order from to (omega arith) (omega (arith, h))) ∙ has_push (elements_at order (range from to)) x v))
    ∙ count_put before x n 1 (not_before n order once from to (omega (arith, h)) at) at.0 (omega (arith, at.1))
    ∙ one (length (side_at n order (range from to))) count (side_of_count n order once all from count (omega (arith, h)))
  where
    one : (k m : ℕ) → k ≡ m → k + 1 ≡ suc m
    one k m e = omega (arith, e)

-- the side at a range has a vertex for each place
pub side_length : (n : ℕ) (order : List ℕ) → AreOnce n order → All (IsVertex n) order → (from to : ℕ) → from ≤ to → to ≤ length order → length (side_at n order (range from to)) + from ≡ to
side_length n order once all from to le within =
    let count = to - from in
    let whole : from + count ≡ to = omega (arith, le) in
    let long : length (side_at n order (range from (from + count))) ≡ count = side_of_count n order once all from count (omega (arith, le, within)) in
    let same : length (side_at n order (range from to)) ≡ count = ap (λ k. length (side_at n order (range from k))) (sym whole) ∙ long in
    omega (arith, same, le)

-- ---- the list of all
-- a set that has all numbers of a range has as many there as the range
all_in : (s : VertexSet) (m low : ℕ) → ((v : ℕ) → low ≤ v → v < low + m → s v ≡ true) → length (filter s (range_with_len low m)) ≡ m
all_in s zero low h = refl
all_in s (suc m) low h =
    let first : s low ≡ true = h low (omega arith) (omega arith) in
    ap (λ b. length (if b then low ∷ filter s (range_with_len (low + 1) m) else filter s (range_with_len (low + 1) m))) first
    ∙ ap suc (all_in s m (low + 1) (λ v from to. h v (omega (arith, from)) (omega (arith, to))))

-- a first part as long as the list is the list
pub take_whole : {X : Type 0} (xs : List X) → take (length xs) xs ≡ xs
take_whole [] = refl
take_whole (x ∷ xs) = ap (λ l. x ∷ l) (take_whole xs)

-- a list that has each vertex, and each in one place, has as many elements as there are vertices
order_length : (n : ℕ) (order : List ℕ) → AreOnce n order → All (IsVertex n) order → ((v : ℕ) → 1 ≤ v → v ≤ n → has order v ≡ true) → length order ≡ n
order_length n order once all there =
    let long : length (side_at n order (range 0 (length order))) + 0 ≡ length order = side_length n order once all 0 (length order) (omega arith) (omega arith) in
    let every : length (side_at n order (range 0 (length order))) ≡ n =
    ap (λ l. length (filter (has l) (range_with_len 1 n))) (take_whole order) ∙ all_in (has order) n 1 (λ v l m. there v l (omega (arith, m))) in
    omega (arith, long, every)

-- the list of all vertices of a cactus has n of them
pub vertices_length : (n : ℕ) (root : Node) → IsCactus n root → length (concat (entered root)) ≡ n
vertices_length n root h = order_length n (concat (entered root)) (each_once n root h) (all_vertices_within n root h) (each_there n root h)
