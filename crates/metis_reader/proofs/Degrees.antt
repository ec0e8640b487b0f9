-- The weights of the lines are the degrees of the vertices.
use Rattle.std.proofs.Common.{◌≡◌, ◌≤◌, ◌<◌, ◌+◌, ◌-◌, ◌^◌, ℕ, zero, suc, List, [], ◌∷◌, ◌++◌, arith, inl, inr, ap, sym, refl, subst, ◌∙◌, min, max}
use Rattle.std.specs.Prelude.{◌==◌, if◌then◌else◌, ◌≢◌, get_or, length, take}
use Rattle.std.specs.List.{All, sum_by}
use Rattle.std.specs.List.Sorted.{IsPermutation}
use Rattle.std.proofs.Math.Nat.{max_comm, min_comm, min-le_left, min-le_right}
use Rattle.std.proofs.lemmas.Bool.{cases_eq, eq-eqb, ne_eqb}
use Rattle.std.proofs.lemmas.List.{take_more}
use Rattle.std.proofs.lemmas.List.Elements.{All-cons, All-head, All-nil, All-tail, All-weaker}
use Rattle.std.proofs.lemmas.List.Sorted.{All-permutation, IsPermutation-refl, sum_by-IsPermutation}
use Rattle.std.proofs.lemmas.List.Sums.{sum_by-append, sum_by-cons}
use Rattle.cut_definitions.specs.declared.edge_list.Edge.{Edge}
use Rattle.cut_definitions.specs.Degrees.{IsLeastDegree}
use Rattle.cut_definitions.specs.Graph.{Graph, IsEdgeWithin, IsEdgeList}
use Rattle.cut_definitions.specs.Scan.{single}
use Rattle.cut_definitions.specs.Weight.{parts, weight}
use Rattle.cut_definitions.proofs.ListLaws.{sum_by-one}
use Rattle.cut_definitions.proofs.Running.{weight-le_total}
use Rattle.cut_definitions.proofs.Sums.{sum_by-plus, sum_by-same_on}
use Rattle.cut_definitions.proofs.Values.{min_cases}
use Rattle.metis_reader.specs.declared.measures.Measures.{Measures}
use Rattle.metis_reader.specs.Measures.{AreLineWeights, AreMeasures, heaviest_of, least_of, lightest_of, line_weight}

-- what an entry to a greater neighbour adds to the line of a vertex, and one to a smaller neighbour
abbrev from_term : ℕ → Edge → ℕ
from_term v e = if v == e.u then e.w else 0

abbrev to_term : ℕ → Edge → ℕ
to_term v e = if v == e.v then e.w else 0

-- The least of some weights.

least_same : (n : ℕ) (f h : ℕ → ℕ) → ((v : ℕ) → v ≤ n → h v ≡ f v) → least_of n h ≡ least_of n f
least_same zero f h same = refl
least_same (suc n) f h same =
    ap (λ k. min k (h (suc n))) (least_same n f h (λ v le. same v (omega arith))) ∙ ap (λ k. min (least_of n f) k) (same (suc n) (omega arith))

least_below : (n : ℕ) (f : ℕ → ℕ) (v : ℕ) → 1 ≤ v → v ≤ n → least_of n f ≤ f v
least_below zero f v one le = absurd (omega arith)
least_below (suc n) f v one le = elim (cases_eq v (suc n)) [
  | inl last ↦ subst (λ k. least_of (suc n) f ≤ f k) (sym last) (min-le_right (least_of n f) (f (suc n)))
  | inr other ↦
      let left : least_of (suc n) f ≤ least_of n f = min-le_left (least_of n f) (f (suc n)) in
      let below : least_of n f ≤ f v = least_below n f v one (omega arith) in
      omega arith
]

-- the last of some weights is the least, or one of the others
record Attained (n least : ℕ) (f : ℕ → ℕ) : Type 0 where
  vertex : ℕ
  from_one : 1 ≤ vertex
  to_n : vertex ≤ n
  has_it : f vertex ≡ least

attained : (n : ℕ) (f : ℕ → ℕ) → ((v : ℕ) → f v ≤ 2 ^ 61) → Attained (suc n) (least_of (suc n) f) f
attained zero f few = elim (min_cases 18446744073709551615 (f 1)) [
  | inl first ↦
      let le : min 18446744073709551615 (f 1) ≤ f 1 = min-le_right 18446744073709551615 (f 1) in
      let most : f 1 ≤ 2 ^ 61 = few 1 in
      absurd (omega arith)
  | inr last ↦ record { vertex = 1; from_one = omega arith; to_n = omega arith; has_it = sym last }
]
attained (suc n) f few = elim (min_cases (least_of (suc n) f) (f (suc (suc n)))) [
  | inl first ↦
      let a : Attained (suc n) (least_of (suc n) f) f = attained n f few in
      let to_n : a.vertex ≤ suc n = a.to_n in
      record { vertex = a.vertex; from_one = a.from_one; to_n = omega arith; has_it = a.has_it ∙ sym first }
  | inr last ↦ record { vertex = suc (suc n); from_one = omega arith; to_n = omega arith; has_it = sym last }
]

-- The lines.

pub lines_moved : (lines least before total : ℕ) (f h : ℕ → ℕ) → ((v : ℕ) → h v ≡ f v) → AreLineWeights lines least before total f → AreLineWeights lines least before total h
lines_moved lines least before total f h same old = record {
  least_is = old.least_is ∙ sym (least_same lines f h (λ v le. same v));
  present = ap (λ k. before + k) (same (suc lines)) ∙ old.present;
  behind = λ v far. same v ∙ old.behind v far;
}

-- the present line has one more entry
pub line_grows : (lines least before total w : ℕ) (f h : ℕ → ℕ) → ((v : ℕ) → h v ≡ f v + (if v == suc lines then w else 0))
    → AreLineWeights lines least before total f → AreLineWeights lines least before (total + w) h
line_grows lines least before total w f h more old =
    let same : (v : ℕ) → v ≢ suc lines → h v ≡ f v = λ v other. more v ∙ rw (ne_eqb v (suc lines) other) (omega arith) in
    let here : h (suc lines) ≡ f (suc lines) + w = more (suc lines) ∙ rw (eq-eqb (suc lines) (suc lines) refl) refl in
    let was : before + f (suc lines) ≡ total = old.present in
    record {
      least_is = old.least_is ∙ sym (least_same lines f h (λ v le. same v (λ q. absurd (omega arith))));
      present = omega arith;
      behind = λ v far. same v (λ q. absurd (omega arith)) ∙ old.behind v far;
    }

-- the present line ends
pub line_ends : (lines least before total : ℕ) (f h : ℕ → ℕ) → ((v : ℕ) → h v ≡ f v) → AreLineWeights lines least before total f
    → AreLineWeights (suc lines) (min least (total - before)) total total h
line_ends lines least before total f h same old =
    let was : before + f (suc lines) ≡ total = old.present in
    let here : total - before ≡ h (suc lines) = (let e : h (suc lines) ≡ f (suc lines) = same (suc lines) in omega arith) in
    let none : h (suc (suc lines)) ≡ 0 = same (suc (suc lines)) ∙ old.behind (suc (suc lines)) (omega arith) in
    record {
      least_is = ap (λ k. min k (total - before)) (old.least_is ∙ sym (least_same lines f h (λ v le. same v))) ∙ ap (λ k. min (least_of lines h) k) here;
      present = omega arith;
      behind = λ v far. same v ∙ old.behind v (omega arith);
    }

pub no_lines : (f : ℕ → ℕ) → ((v : ℕ) → f v ≡ 0) → AreLineWeights 0 18446744073709551615 0 0 f
no_lines f none = record { least_is = refl; present = ap (λ k. 0 + k) (none 1); behind = λ v far. none v }

-- The lists of entries.

pub weight_moved : (greater sorted lesser others : List Edge) → IsPermutation greater sorted → IsPermutation lesser others → (v : ℕ) → line_weight sorted others v ≡ line_weight greater lesser v
weight_moved greater sorted lesser others g l v =
    ap (λ k. k + sum_by (to_term v) others) (sum_by-IsPermutation (from_term v) greater sorted g)
    ∙ ap (λ k. sum_by (from_term v) greater + k) (sum_by-IsPermutation (to_term v) lesser others l)

pub weight_up : (greater lesser : List Edge) (e : Edge) (v : ℕ) → line_weight (greater ++ e ∷ []) lesser v ≡ line_weight greater lesser v + (if v == e.u then e.w else 0)
weight_up greater lesser e v =
    let more : sum_by (from_term v) (greater ++ e ∷ []) ≡ sum_by (from_term v) greater + sum_by (from_term v) (e ∷ []) = sum_by-append (from_term v) greater (e ∷ []) in
    let one : sum_by (from_term v) (e ∷ []) ≡ (if v == e.u then e.w else 0) = sum_by-one (from_term v) e in
    omega arith

pub weight_down : (greater lesser others : List Edge) (e : Edge) → IsPermutation (lesser ++ e ∷ []) others → (v : ℕ) → line_weight greater others v ≡ line_weight greater lesser v + (if v == e.v then e.w else 0)
weight_down greater lesser others e moved v =
    let same : sum_by (to_term v) others ≡ sum_by (to_term v) (lesser ++ e ∷ []) = sum_by-IsPermutation (to_term v) (lesser ++ e ∷ []) others moved in
    let more : sum_by (to_term v) (lesser ++ e ∷ []) ≡ sum_by (to_term v) lesser + sum_by (to_term v) (e ∷ []) = sum_by-append (to_term v) lesser (e ∷ []) in
    let one : sum_by (to_term v) (e ∷ []) ≡ (if v == e.v then e.w else 0) = sum_by-one (to_term v) e in
    omega arith

-- The lines, by these lists.

-- entries are met
pub lines_met : (lines least before total : ℕ) (greater lesser others : List Edge) → IsPermutation lesser others
    → AreLineWeights lines least before total (line_weight greater lesser) → AreLineWeights lines least before total (line_weight greater others)
lines_met lines least before total greater lesser others moved old =
    lines_moved lines least before total (line_weight greater lesser) (line_weight greater others) (weight_moved greater greater lesser others (IsPermutation-refl greater) moved) old

-- the term of the present line
at_present : (lines end w v : ℕ) → end ≡ suc lines → (if v == end then w else 0) ≡ (if v == suc lines then w else 0)
at_present lines end w v is = ap (λ k. if v == k then w else 0) is

-- an entry to a greater neighbour comes
pub line_up : (lines least before total : ℕ) (greater lesser more others : List Edge) (e : Edge) → e.u ≡ suc lines → more ≡ greater ++ e ∷ [] → others ≡ lesser
    → AreLineWeights lines least before total (line_weight greater lesser) → AreLineWeights lines least before (total + e.w) (line_weight more others)
line_up lines least before total greater lesser more others e is is_more same old =
    line_grows lines least before total e.w (line_weight greater lesser) (line_weight more others)
    (λ v. ap (λ xs. line_weight xs others v) is_more ∙ ap (λ xs. line_weight (greater ++ e ∷ []) xs v) same ∙ weight_up greater lesser e v ∙ ap (λ k. line_weight greater lesser v + k) (at_present lines e.u e.w v is)) old

-- or one to a smaller neighbour
pub line_down : (lines least before total : ℕ) (greater lesser others : List Edge) (e : Edge) → e.v ≡ suc lines → IsPermutation (lesser ++ e ∷ []) others
    → AreLineWeights lines least before total (line_weight greater lesser) → AreLineWeights lines least before (total + e.w) (line_weight greater others)
line_down lines least before total greater lesser others e is moved old =
    line_grows lines least before total e.w (line_weight greater lesser) (line_weight greater others)
    (λ v. weight_down greater lesser others e moved v ∙ ap (λ k. line_weight greater lesser v + k) (at_present lines e.v e.w v is)) old

-- the line ends
pub line_over : (lines least before total next low : ℕ) (greater lesser sorted others : List Edge) → IsPermutation greater sorted → others ≡ lesser → next ≡ suc lines → low ≡ min least (total - before)
    → AreLineWeights lines least before total (line_weight greater lesser) → AreLineWeights next low total total (line_weight sorted others)
line_over lines least before total next low greater lesser sorted others moved same is_next is_low old =
    subst (λ k. AreLineWeights k low total total (line_weight sorted others)) (sym is_next)
    (subst (λ k. AreLineWeights (suc lines) k total total (line_weight sorted others)) (sym is_low)
    (line_ends lines least before total (line_weight greater lesser) (line_weight sorted others)
    (λ v. ap (λ xs. line_weight sorted xs v) same ∙ weight_moved greater sorted lesser lesser moved (IsPermutation-refl lesser) v) old))

-- The degrees.

degree_term : (n v : ℕ) (e : Edge) → IsEdgeWithin n e → from_term v e + to_term v e ≡ (if parts (single v) e.u e.v then e.w else 0)
degree_term n v e within =
    let up : e.u < e.v = within.1 in
    elim (cases_eq v e.u) [
      | inl here ↦ rw (eq-eqb v e.u here, ne_eqb v e.v (λ q. absurd (omega arith))) (omega arith)
      | inr other ↦ rw (ne_eqb v e.u other) (omega arith)
    ]

degree_is : (n v : ℕ) (xs : List Edge) → All (IsEdgeWithin n) xs → line_weight xs xs v ≡ weight (record { vertices = n; edges = xs }) (single v)
degree_is n v xs within =
    sym (sum_by-plus (from_term v) (to_term v) xs)
    ∙ sum_by-same_on (λ e. from_term v e + to_term v e) (λ e. if parts (single v) e.u e.v then e.w else 0) xs (All-weaker (IsEdgeWithin n) _ (λ e h. degree_term n v e h) xs within)

degree_few : (g : Graph) → IsEdgeList g → (v : ℕ) → weight g (single v) ≤ 2 ^ 61
degree_few g is v =
    let most : sum_by (λ (e : Edge). e.w) g.edges ≤ 2 ^ 61 = is.is_graph.total in
    let le : weight g (single v) ≤ sum_by (λ (e : Edge). e.w) g.edges = weight-le_total g (single v) in
    omega arith

-- the least weight of all lines is the least degree
least_degree : (g : Graph) (n least : ℕ) (f : ℕ → ℕ) → IsEdgeList g → n ≡ g.vertices → 1 ≤ n → ((v : ℕ) → weight g (single v) ≡ f v) → least ≡ least_of n f → IsLeastDegree g least
least_degree g zero least f is same some each is_least = absurd (omega arith)
least_degree g (suc n) least f is same some each is_least =
    let few : (v : ℕ) → f v ≤ 2 ^ 61 = λ v. subst (λ k. k ≤ 2 ^ 61) (each v) (degree_few g is v) in
    let a : Attained (suc n) (least_of (suc n) f) f = attained n f few in
    let to_n : a.vertex ≤ suc n = a.to_n in
    record {
      vertex = a.vertex;
      from_one = a.from_one;
      to_n = omega arith;
      has_it = each a.vertex ∙ a.has_it ∙ sym is_least;
      least = λ v one le.
          let below : least_of (suc n) f ≤ f v = least_below (suc n) f v one (omega arith) in
          let at : weight g (single v) ≡ f v = each v in
          omega arith;
    }

-- The measures of a graph whose lines are all read, and whose entries are met.
pub measures_are : (lines n least before total : ℕ) (greater lesser sorted : List Edge) (g : Graph) (m : Measures) → AreLineWeights lines least before total (line_weight greater lesser)
    → lines ≤ n → n ≤ lines → g ≡ record { vertices = n; edges = sorted } → IsEdgeList (record { vertices = n; edges = sorted }) → IsPermutation greater sorted → IsPermutation lesser sorted
    → m.least_degree ≡ least → m.lightest ≡ lightest_of sorted → m.heaviest ≡ heaviest_of sorted → AreMeasures g m
measures_are lines n least before total greater lesser sorted g m weights few all is is_list moved_g moved_l least_is lightest heaviest =
    let h : Graph = record { vertices = n; edges = sorted } in
    let same : lines ≡ n = omega arith in
    let each : (v : ℕ) → weight h (single v) ≡ line_weight greater lesser v = λ v.
    sym (degree_is n v sorted is_list.is_graph.in_range) ∙ weight_moved greater sorted lesser sorted moved_g moved_l v in
    let told : m.least_degree ≡ least_of n (line_weight greater lesser) = least_is ∙ weights.least_is ∙ ap (λ k. least_of k (line_weight greater lesser)) same in
    subst (λ g. AreMeasures g m) (sym is)
    (record {
      least = λ some. least_degree h n m.least_degree (line_weight greater lesser) is_list refl some each told;
      none = λ empty. told ∙ ap (λ k. least_of k (line_weight greater lesser)) empty;
      lightest = lightest;
      heaviest = heaviest;
    })

-- If edges have no weights, each is 1.

at_least_one : (xs : List Edge) → All (λ (e : Edge). 1 ≤ e.w) xs → length xs ≤ sum_by (λ (e : Edge). e.w) xs
at_least_one [] h = omega arith
at_least_one (e ∷ xs) h =
    let one : 1 ≤ e.w = All-head (λ (e : Edge). 1 ≤ e.w) e xs h in
    let rest : length xs ≤ sum_by (λ (e : Edge). e.w) xs = at_least_one xs (All-tail (λ (e : Edge). 1 ≤ e.w) e xs h) in
    let cons : sum_by (λ (e : Edge). e.w) (e ∷ xs) ≡ e.w + sum_by (λ (e : Edge). e.w) xs = sum_by-cons (λ (e : Edge). e.w) e xs in
    omega arith

pub each_is_one : (xs : List Edge) → All (λ (e : Edge). 1 ≤ e.w) xs → sum_by (λ (e : Edge). e.w) xs ≡ length xs → All (λ (e : Edge). e.w ≡ 1) xs
each_is_one [] h sum = All-nil (λ (e : Edge). e.w ≡ 1)
each_is_one (e ∷ xs) h sum =
    let heads : 1 ≤ e.w = All-head (λ (e : Edge). 1 ≤ e.w) e xs h in
    let tails : All (λ (e : Edge). 1 ≤ e.w) xs = All-tail (λ (e : Edge). 1 ≤ e.w) e xs h in
    let most : length xs ≤ sum_by (λ (e : Edge). e.w) xs = at_least_one xs tails in
    let cons : sum_by (λ (e : Edge). e.w) (e ∷ xs) ≡ e.w + sum_by (λ (e : Edge). e.w) xs = sum_by-cons (λ (e : Edge). e.w) e xs in
    let all : sum_by (λ (e : Edge). e.w) (e ∷ xs) ≡ suc (length xs) = sum in
    All-cons (λ (e : Edge). e.w ≡ 1) e xs (omega arith) (each_is_one xs tails (omega arith))

-- if the weights of two lists add up to their lengths
pub all_of_both : (n m : ℕ) (xs ys sorted : List Edge) → All (IsEdgeWithin n) xs → All (IsEdgeWithin m) ys → IsPermutation xs sorted
    → sum_by (λ (e : Edge). e.w) xs + sum_by (λ (e : Edge). e.w) ys ≡ length xs + length ys → All (λ (e : Edge). e.w ≡ 1) sorted
all_of_both n m xs ys sorted in_xs in_ys moved sum =
    let some_xs : All (λ (e : Edge). 1 ≤ e.w) xs = All-weaker (IsEdgeWithin n) (λ (e : Edge). 1 ≤ e.w) (λ e h. h.3) xs in_xs in
    let some_ys : All (λ (e : Edge). 1 ≤ e.w) ys = All-weaker (IsEdgeWithin m) (λ (e : Edge). 1 ≤ e.w) (λ e h. h.3) ys in_ys in
    let le_xs : length xs ≤ sum_by (λ (e : Edge). e.w) xs = at_least_one xs some_xs in
    let le_ys : length ys ≤ sum_by (λ (e : Edge). e.w) ys = at_least_one ys some_ys in
    All-permutation (λ (e : Edge). e.w ≡ 1) xs sorted moved (each_is_one xs some_xs (omega arith))

-- The range of the weights of more and more edges.

min_assoc : (a b c : ℕ) → min (min a b) c ≡ min a (min b c)
min_assoc a b c = grind arith

max_assoc : (a b c : ℕ) → max (max a b) c ≡ max a (max b c)
max_assoc a b c = grind arith

pub lightest_more : (xs : List Edge) (e : Edge) → lightest_of (xs ++ e ∷ []) ≡ min (lightest_of xs) e.w
lightest_more [] e = min_comm e.w 18446744073709551615
lightest_more (x ∷ xs) e = ap (λ k. min x.w k) (lightest_more xs e) ∙ sym (min_assoc x.w (lightest_of xs) e.w)

pub heaviest_more : (xs : List Edge) (e : Edge) → heaviest_of (xs ++ e ∷ []) ≡ max (heaviest_of xs) e.w
heaviest_more [] e = max_comm e.w 0
heaviest_more (x ∷ xs) e = ap (λ k. max x.w k) (heaviest_more xs e) ∙ sym (max_assoc x.w (heaviest_of xs) e.w)

pub lightest_step : (xs : List Edge) (i : ℕ) (d : Edge) → i < length xs → lightest_of (take (i + 1) xs) ≡ min (lightest_of (take i xs)) (get_or xs i d).w
lightest_step xs i d lt = ap lightest_of (take_more xs i d lt) ∙ lightest_more (take i xs) (get_or xs i d)

pub heaviest_step : (xs : List Edge) (i : ℕ) (d : Edge) → i < length xs → heaviest_of (take (i + 1) xs) ≡ max (heaviest_of (take i xs)) (get_or xs i d).w
heaviest_step xs i d lt = ap heaviest_of (take_more xs i d lt) ∙ heaviest_more (take i xs) (get_or xs i d)

pub one_lightest : (e : Edge) (xs : List Edge) → e.w < 2 ^ 63 → All (λ (e : Edge). e.w ≡ 1) (e ∷ xs) → lightest_of (e ∷ xs) ≡ 1
one_lightest e [] small h = let one : e.w ≡ 1 = All-head (λ (e : Edge). e.w ≡ 1) e [] h in rw one refl
one_lightest e (x ∷ xs) small h =
    let one : e.w ≡ 1 = All-head (λ (e : Edge). e.w ≡ 1) e (x ∷ xs) h in
    let rest : All (λ (e : Edge). e.w ≡ 1) (x ∷ xs) = All-tail (λ (e : Edge). e.w ≡ 1) e (x ∷ xs) h in
    let next : x.w ≡ 1 = All-head (λ (e : Edge). e.w ≡ 1) x xs rest in
    rw (one, one_lightest x xs (omega arith) rest) refl

pub one_heaviest : (e : Edge) (xs : List Edge) → All (λ (e : Edge). e.w ≡ 1) (e ∷ xs) → heaviest_of (e ∷ xs) ≡ 1
one_heaviest e [] h = let one : e.w ≡ 1 = All-head (λ (e : Edge). e.w ≡ 1) e [] h in rw one refl
one_heaviest e (x ∷ xs) h =
    let one : e.w ≡ 1 = All-head (λ (e : Edge). e.w ≡ 1) e (x ∷ xs) h in
    let rest : All (λ (e : Edge). e.w ≡ 1) (x ∷ xs) = All-tail (λ (e : Edge). e.w ≡ 1) e (x ∷ xs) h in
    rw (one, one_heaviest x xs rest) refl

pub ones_lightest : (xs : List Edge) → 1 ≤ length xs → All (λ (e : Edge). e.w ≡ 1) xs → lightest_of xs ≡ 1
ones_lightest [] some h = absurd (omega arith)
ones_lightest (e ∷ xs) some h = let one : e.w ≡ 1 = All-head (λ (e : Edge). e.w ≡ 1) e xs h in one_lightest e xs (omega arith) h

pub ones_heaviest : (xs : List Edge) → 1 ≤ length xs → All (λ (e : Edge). e.w ≡ 1) xs → heaviest_of xs ≡ 1
ones_heaviest [] some h = absurd (omega arith)
ones_heaviest (e ∷ xs) some h = one_heaviest e xs h
