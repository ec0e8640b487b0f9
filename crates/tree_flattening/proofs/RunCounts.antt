-- If no node of a tree of minimum cuts is empty, there is one cut for each two nodes that begin and end a run of one block; they
-- may be the same node.
use Rattle.std.proofs.Common.{◌≡◌, ℕ, zero, suc, ◌+◌, ◌-◌, ◌<◌, ◌≤◌, ◌⊎◌, inl, inr, Bool, true, false, ◌&&◌, ◌||◌, not, eqb, ltb, List, [], ◌∷◌, ◌++◌, length, map, ap, refl, sym, ◌∙◌, subst, arith, length-append}
use Rattle.std.specs.Prelude.{◌==◌, IsTrue, if◌then◌else◌, slice_index}
use Rattle.std.specs.List.{Contains, range_with_len}
use Rattle.std.proofs.lemmas.Bool.{cases_Bool, cases_lt, eqb-true}
use Rattle.std.proofs.lemmas.Bool.Decides.{nat_tests}
use Rattle.std.proofs.lemmas.List.Elements.{Contains-get_or, Contains-append_left, Contains-append_right, Contains-append_cases}
use Rattle.cut_definitions.specs.Cuts.{has, mincuts, side_of}
use Rattle.cut_definitions.specs.Graph.{Graph, IsGraph}
use Rattle.cut_definitions.specs.Members.{AreDifferent}
use Rattle.cut_definitions.specs.Weight.{VertexSet, parts}
use Rattle.cut_definitions.proofs.Bools.{contrary, same_tests}
use Rattle.cut_definitions.proofs.Bridge.{Contains-mincuts_side_of, IsMinimumCut-from_mincuts, has-side_of, has_low, side_of-has}
use Rattle.cut_definitions.proofs.ChainLists.{filter-range}
use Rattle.cut_definitions.proofs.ListLaws.{mapped_length}
use Rattle.cut_definitions.proofs.Lists.{Contains-here, Contains-there, Contains-cons_cases, Contains-nil, Contains-map, Contains-from_filter, Contains-from_map}
use Rattle.cut_definitions.proofs.Values.{IsSide-from_mincuts}
use Rattle.node_tree.specs.Finished.{IsTreeOfAll}
use Rattle.node_tree.specs.Flat.{AreNodes, NodeArrays, is_below, is_follower, sets_of}
use Rattle.node_tree.specs.TreeSets.{AreInCycle, IsTreeSide}
use Rattle.node_tree.proofs.Making.{below_step, itself, not_below}
use Rattle.rooted_cactus.specs.Different.{HasDifferent}
use Rattle.tree_flattening.specs.Arranged.{AreFilled}
use Rattle.tree_flattening.specs.Counted.{place_of, places_to}
use Rattle.tree_flattening.specs.Plans.{own_of}
use Rattle.tree_flattening.proofs.Runs.{range_within}

-- ---- lists of different elements

different_append : {X : Type 0} (xs ys : List X) → AreDifferent xs → AreDifferent ys → ((x : X) → Contains xs x → Contains ys x → ⊥) → AreDifferent (xs ++ ys)
different_append [] ys a b apart = b
different_append (x ∷ xs) ys a b apart = (
  λ c. elim (Contains-append_cases xs ys x c) [ inl h ↦ a.0 h | inr h ↦ apart x (Contains-here x xs) h ],
  different_append xs ys a.1 b (λ y h k. apart y (Contains-there x xs y h) k),
)

different_map : {X Y : Type 0} (f : X → Y) (xs : List X) → ((x y : X) → Contains xs x → Contains xs y → f x ≡ f y → x ≡ y) → AreDifferent xs → AreDifferent (map f xs)
different_map f [] one h = tt
different_map f (x ∷ xs) one h = (
  λ c.
      let y = Contains-from_map f xs (f x) c in
      let same : x ≡ y.0 = one x y.0 (Contains-here x xs) (Contains-there x xs y.0 y.1) (sym y.2) in
      h.0 (subst (Contains xs) (sym same) y.1),
  different_map f xs (λ a b l r. one a b (Contains-there x xs a l) (Contains-there x xs b r)) h.1,
)

-- ---- runs of nodes that follow each other: the first one, and how many follow it

abbrev Run : Type 0
Run = ℕ × ℕ

-- a run of nodes up to a last one
record IsRun (follows : List Bool) (last : ℕ) (r : Run) : Type 0 where
  low : 1 ≤ r.0
  within : r.0 + r.1 ≤ last
  followed : AreInCycle (is_follower follows) r.0 (r.0 + r.1)

-- the runs that end with a node and have fewer followers than a number
abbrev ends_at : ℕ → ℕ → List Run
ends_at last zero = []
ends_at last (suc k) = (last - k, k) ∷ ends_at last k

-- all those up to a last node
abbrev runs_to : List Bool → ℕ → List Run
runs_to follows zero = []
runs_to follows (suc i) = ends_at (suc i) (place_of follows (suc i)) ++ runs_to follows i

ends_many : (last k : ℕ) → length (ends_at last k) ≡ k
ends_many last zero = refl
ends_many last (suc k) = ap suc (ends_many last k)

runs_many : (follows : List Bool) (i : ℕ) → length (runs_to follows i) ≡ places_to follows i
runs_many follows zero = refl
runs_many follows (suc i) = omega (arith, length-append (ends_at (suc i) (place_of follows (suc i))) (runs_to follows i), ends_many (suc i) (place_of follows (suc i)), runs_many follows i)

ends_are : (last k : ℕ) (r : Run) → Contains (ends_at last k) r → (r.1 < k) × (r.0 ≡ last - r.1)
ends_are last zero r c = absurd (Contains-nil r c)
ends_are last (suc k) r c = elim (Contains-cons_cases (last - k, k) (ends_at last k) r c) [
  | inl e ↦ (let at : k ≡ r.1 = ap (λ (x : Run). x.1) e in omega (arith, at), sym (ap (λ (x : Run). x.0) e) ∙ ap (λ (j : ℕ). last - j) (ap (λ (x : Run). x.1) e))
  | inr t ↦ (let there = ends_are last k r t in (omega (arith, there.0), there.1))
]

ends_have : (last k j : ℕ) → j < k → Contains (ends_at last k) (last - j, j)
ends_have last zero j lt = absurd (omega (arith, lt))
ends_have last (suc k) j lt = elim (cases_lt j k) [
  | inl less ↦ Contains-there (last - k, k) (ends_at last k) (last - j, j) (ends_have last k j less)
  | inr more ↦ (let same : k ≡ j = omega (arith, lt, more) in subst (λ (i : ℕ). Contains (ends_at last (suc k)) (last - i, i)) same (Contains-here (last - k, k) (ends_at last k)))
]

ends_differ : (last k : ℕ) → AreDifferent (ends_at last k)
ends_differ last zero = tt
ends_differ last (suc k) = (λ c. omega (arith, (ends_are last k (last - k, k) c).0), ends_differ last k)

-- ---- the place of a node is the number of the runs that end with it

next_place : (follows : List Bool) (i : ℕ) → is_follower follows (suc i) ≡ true → place_of follows (suc i) ≡ place_of follows i + 1
next_place follows i e = ap (λ (b : Bool). if b then place_of follows i + 1 else 1) e

first_place : (follows : List Bool) (i : ℕ) → is_follower follows (suc i) ≡ false → place_of follows (suc i) ≡ 1
first_place follows i e = ap (λ (b : Bool). if b then place_of follows i + 1 else 1) e

runs_end : (follows : List Bool) (last k : ℕ) → k < place_of follows last → IsRun follows last (last - k, k)
runs_end follows zero k lt = absurd (omega (arith, lt))
runs_end follows (suc i) zero lt = record { low = omega arith; within = omega arith; followed = λ j after upto. absurd (omega (arith, after, upto)) }
runs_end follows (suc i) (suc k) lt = elim (cases_Bool (is_follower follows (suc i))) [
  | inl after ↦
      let before = runs_end follows i k (omega (arith, lt, next_place follows i after)) in
      record {
        low = omega (arith, before.low);
        within = omega (arith, before.low, before.within);
        followed = λ j from upto. elim (cases_lt j (suc i)) [
          | inl less ↦ before.followed j (omega (arith, from)) (omega (arith, less, before.low, before.within))
          | inr more ↦ (let same : suc i ≡ j = omega (arith, more, upto, before.low, before.within) in subst (λ (n : ℕ). IsTrue (is_follower follows n)) same after)
        ];
      }
  | inr apart ↦ absurd (omega (arith, lt, first_place follows i apart))
]

place_some : (follows : List Bool) (i : ℕ) → 1 ≤ place_of follows (suc i)
place_some follows i = elim (cases_Bool (is_follower follows (suc i))) [
  | inl after ↦ omega (arith, next_place follows i after)
  | inr apart ↦ omega (arith, first_place follows i apart)
]

far_enough : (follows : List Bool) (last first k : ℕ) → 1 ≤ first → first + k ≡ last → AreInCycle (is_follower follows) first last → k < place_of follows last
far_enough follows zero first k low at cycle = absurd (omega (arith, low, at))
far_enough follows (suc i) first zero low at cycle = omega (arith, place_some follows i)
far_enough follows (suc i) first (suc k) low at cycle =
    let follower : is_follower follows (suc i) ≡ true = cycle (suc i) (omega (arith, at)) (omega arith) in
    let before = far_enough follows i first k low (omega (arith, at)) (λ j after upto. cycle j after (omega (arith, upto))) in
    omega (arith, before, next_place follows i follower)

-- ---- one node more

pub place_next : (follows : List Bool) (i : ℕ) → 1 ≤ i → place_of follows i ≡ (if is_follower follows i then place_of follows (i - 1) + 1 else 1)
place_next follows zero low = absurd (omega (arith, low))
place_next follows (suc i) low = (let back : i ≡ suc i - 1 = omega arith in ap (λ (j : ℕ). if is_follower follows (suc i) then place_of follows j + 1 else 1) back)

pub places_next : (follows : List Bool) (i : ℕ) → 1 ≤ i → places_to follows i ≡ place_of follows i + places_to follows (i - 1)
places_next follows zero low = absurd (omega (arith, low))
places_next follows (suc i) low = (let back : i ≡ suc i - 1 = omega arith in ap (λ (j : ℕ). place_of follows (suc i) + places_to follows j) back)

-- ---- all runs up to a node

runs_are : (follows : List Bool) (last : ℕ) (r : Run) → Contains (runs_to follows last) r → IsRun follows last r
runs_are follows zero r c = absurd (Contains-nil r c)
runs_are follows (suc i) r c = elim (Contains-append_cases (ends_at (suc i) (place_of follows (suc i))) (runs_to follows i) r c) [
  | inl end ↦
      let at = ends_are (suc i) (place_of follows (suc i)) r end in
      let run = runs_end follows (suc i) r.1 at.0 in
      subst (λ (first : ℕ). IsRun follows (suc i) (first, r.1)) (sym at.1) run
  | inr before ↦
      let run = runs_are follows i r before in
      record { low = run.low; within = omega (arith, run.within); followed = run.followed }
]

runs_have : (follows : List Bool) (last first k : ℕ) → 1 ≤ first → first + k ≤ last → AreInCycle (is_follower follows) first (first + k) → Contains (runs_to follows last) (first, k)
runs_have follows zero first k low within cycle = absurd (omega (arith, low, within))
runs_have follows (suc i) first k low within cycle = elim (cases_lt (first + k) (suc i)) [
  | inl less ↦ Contains-append_right (ends_at (suc i) (place_of follows (suc i))) (runs_to follows i) (first, k) (runs_have follows i first k low (omega (arith, less)) cycle)
  | inr more ↦
      let at : first + k ≡ suc i = omega (arith, within, more) in
      let is : suc i - k ≡ first = omega (arith, at) in
      let far = far_enough follows (suc i) first k low at (subst (AreInCycle (is_follower follows) first) at cycle) in
      Contains-append_left (ends_at (suc i) (place_of follows (suc i))) (runs_to follows i) (first, k)
      (subst (λ (f : ℕ). Contains (ends_at (suc i) (place_of follows (suc i))) (f, k)) is (ends_have (suc i) (place_of follows (suc i)) k far))
]

runs_differ : (follows : List Bool) (last : ℕ) → AreDifferent (runs_to follows last)
runs_differ follows zero = tt
runs_differ follows (suc i) =
    different_append (ends_at (suc i) (place_of follows (suc i))) (runs_to follows i) (ends_differ (suc i) (place_of follows (suc i))) (runs_differ follows i)
    (λ r end before.
    let at = ends_are (suc i) (place_of follows (suc i)) r end in
    let run = runs_end follows (suc i) r.1 at.0 in
    omega (arith, at.1, run.low, (runs_are follows i r before).within))

-- ---- what is under a run

abbrev covers : List ℕ → ℕ → ℕ → ℕ → Bool
covers u first zero x = is_below u first x
covers u first (suc k) x = is_below u (first + suc k) x || covers u first k x

record IsUnderOne (u : List ℕ) (first k x : ℕ) : Type 0 where
  node : ℕ
  from : first ≤ node
  upto : node ≤ first + k
  under : is_below u node x ≡ true

or_true : (a b : Bool) → (a || b) ≡ true → (a ≡ true) ⊎ (b ≡ true)
or_true true b h = inl refl
or_true false b h = inr h

or_left : (a b : Bool) → a ≡ true → (a || b) ≡ true
or_left a b h = ap (λ (c : Bool). c || b) h

or_right : (a b : Bool) → b ≡ true → (a || b) ≡ true
or_right true b h = refl
or_right false b h = h

covers_one : (u : List ℕ) (first k x : ℕ) → covers u first k x ≡ true → IsUnderOne u first k x
covers_one u first zero x h = record { node = first; from = omega arith; upto = omega arith; under = h }
covers_one u first (suc k) x h = elim (or_true (is_below u (first + suc k) x) (covers u first k x) h) [
  | inl here ↦ record { node = first + suc k; from = omega arith; upto = omega arith; under = here }
  | inr there ↦
      let one = covers_one u first k x there in
      record { node = one.node; from = one.from; upto = omega (arith, one.upto); under = one.under }
]

one_covers : (u : List ℕ) (first k x i : ℕ) → first ≤ i → i ≤ first + k → is_below u i x ≡ true → covers u first k x ≡ true
one_covers u first zero x i from upto h = (let same : i ≡ first = omega (arith, from, upto) in subst (λ (j : ℕ). is_below u j x ≡ true) same h)
one_covers u first (suc k) x i from upto h = elim (cases_lt i (first + suc k)) [
  | inl less ↦ or_right (is_below u (first + suc k) x) (covers u first k x) (one_covers u first k x i from (omega (arith, less)) h)
  | inr more ↦
      let same : i ≡ first + suc k = omega (arith, upto, more) in
      or_left (is_below u (first + suc k) x) (covers u first k x) (subst (λ (j : ℕ). is_below u j x ≡ true) same h)
]

-- ---- the side of a run

abbrev set_of : NodeArrays → Run → VertexSet
set_of a r v = covers a.links.uppers r.0 r.1 (a.homes v)

-- some vertex of 1 to n is in each node
abbrev HasOwn : ℕ → NodeArrays → Type 0
HasOwn n a = (i : ℕ) → i < length a.links.uppers → (v : ℕ) × (1 ≤ v) × (v ≤ n) × (a.homes v ≡ i)

own_vertex : (n : ℕ) (a : NodeArrays) → AreFilled n a → HasOwn n a
own_vertex n a filled i lt =
    let v = slice_index (own_of n a i) 0 in
    let there = Contains-from_filter (λ u. a.homes u == i) (range_with_len 1 n) v (Contains-get_or (own_of n a i) 0 0 (omega (arith, filled i lt))) in
    let within = range_within 1 n v there.0 in
    (v, within.0, omega (arith, within.1), eqb-true (a.homes v) i there.1)

abbrev IsRunIn : NodeArrays → Run → Type 0
IsRunIn a r = IsRun a.links.follows (length a.links.uppers - 1) r

is_side : (n : ℕ) (a : NodeArrays) (r : Run) → AreNodes a → IsRunIn a r → IsTreeSide n (sets_of a) (set_of a r)
is_side n a r nodes run = record {
  first = r.0;
  last = r.0 + r.1;
  from_one = run.low;
  ordered = omega arith;
  below_count = omega (arith, run.within, nodes.root);
  in_cycle = run.followed;
  under = record {
    each = λ v low high h. let one = covers_one a.links.uppers r.0 r.1 (a.homes v) h in (one.node, one.from, one.upto, one.under);
    all = λ i v from upto low high h. one_covers a.links.uppers r.0 r.1 (a.homes v) i from upto h;
  };
}

-- each node but the root hangs from one with a smaller number
abbrev Descend : List ℕ → ℕ → Type 0
Descend u size = (i : ℕ) → 1 ≤ i → i < size → slice_index u i < i

-- a node is below no later one
no_later : (u : List ℕ) (size : ℕ) → Descend u size → (x k : ℕ) → x < size → is_below u k x ≡ true → k ≤ x
no_later u size down x k lt h = elim (cases_lt x k) [
  | inl less ↦ absurd (contrary h (not_below u size down x k lt less))
  | inr more ↦ more
]

lacks_one : (a : NodeArrays) (r : Run) → AreNodes a → a.homes 1 ≡ 0 → 1 ≤ r.0 → set_of a r 1 ≡ false
lacks_one a r nodes root low = elim (cases_Bool (set_of a r 1)) [
  | inl there ↦
      let one = covers_one a.links.uppers r.0 r.1 (a.homes 1) there in
      let under = subst (λ (h : ℕ). is_below a.links.uppers one.node h ≡ true) root one.under in
      absurd (omega (arith, low, one.from, no_later a.links.uppers (length a.links.uppers) nodes.upper 0 one.node (omega (arith, nodes.root)) under))
  | inr out ↦ out
]

-- two sets with the same vertices of 1 to n
abbrev SameTo : ℕ → VertexSet → VertexSet → Type 0
SameTo n x y = (v : ℕ) → 1 ≤ v → v ≤ n → x v ≡ y v

first_low : (n : ℕ) (a : NodeArrays) (r s : Run) → AreNodes a → HasOwn n a → IsRunIn a r → SameTo n (set_of a r) (set_of a s) → s.0 ≤ r.0
first_low n a r s nodes own run same =
    let u = a.links.uppers in
    let lt : r.0 < length u = omega (arith, run.within, nodes.root) in
    let v = own r.0 lt in
    let here = subst (λ (h : ℕ). is_below u r.0 h ≡ true) (sym v.3) (itself u (length u) nodes.upper r.0 lt) in
    let one = covers_one u s.0 s.1 (a.homes v.0) (sym (same v.0 v.1 v.2) ∙ one_covers u r.0 r.1 (a.homes v.0) r.0 (omega arith) (omega arith) here) in
    let under = subst (λ (h : ℕ). is_below u one.node h ≡ true) v.3 one.under in
    omega (arith, one.from, no_later u (length u) nodes.upper r.0 one.node lt under)

-- the nodes of a run hang from one
run_upper : (a : NodeArrays) (first k j : ℕ) → AreNodes a → 1 ≤ first → j ≡ first + k → j < length a.links.uppers → AreInCycle (is_follower a.links.follows) first j →
    slice_index a.links.uppers j ≡ slice_index a.links.uppers first
run_upper a first zero j nodes low at lt cycle = (let same : j ≡ first = omega (arith, at) in ap (slice_index a.links.uppers) same)
run_upper a first (suc k) j nodes low at lt cycle =
    let steady = nodes.steady j (omega (arith, low, at)) lt (cycle j (omega (arith, at)) (omega arith)) in
    steady.1 ∙ run_upper a first k (j - 1) nodes low (omega (arith, at)) (omega (arith, lt)) (λ i after upto. cycle i after (omega (arith, upto)))

step_up : (x k : ℕ) (r : Bool) → k < x → (eqb x k || (ltb k x && r)) ≡ r
step_up x k r h = grind (arith, nat_tests)

-- what is below a smaller node hangs from one that is below it
climb : (u : List ℕ) (size : ℕ) → Descend u size → (x k : ℕ) → k < x → x < size → is_below u k x ≡ true → is_below u k (slice_index u x) ≡ true
climb u size down x k less lt h = sym (step_up x k (is_below u k (slice_index u x)) less) ∙ sym (below_step u size down x k (omega (arith, less)) lt) ∙ h

last_low : (n : ℕ) (a : NodeArrays) (first k l : ℕ) → AreNodes a → HasOwn n a → IsRunIn a (first, k) → IsRunIn a (first, l) → SameTo n (set_of a (first, k)) (set_of a (first, l)) → l ≤ k
last_low n a first k l nodes own run other same = elim (cases_lt k l) [
  | inl less ↦
      let u = a.links.uppers in
      let last = first + l in
      let lt : last < length u = omega (arith, other.within, nodes.root) in
      let v = own last lt in
      let here = subst (λ (h : ℕ). is_below u last h ≡ true) (sym v.3) (itself u (length u) nodes.upper last lt) in
      let one = covers_one u first k (a.homes v.0) (same v.0 v.1 v.2 ∙ one_covers u first l (a.homes v.0) last (omega arith) (omega arith) here) in
      let under = subst (λ (h : ℕ). is_below u one.node h ≡ true) v.3 one.under in
      let up = slice_index u last in
      let hangs = run_upper a first l last nodes run.low refl lt other.followed in
      let low = nodes.upper first run.low (omega (arith, run.within, nodes.root)) in
      let above = climb u (length u) nodes.upper last one.node (omega (arith, less, one.upto)) lt under in
      absurd (omega (arith, hangs, low, one.from, no_later u (length u) nodes.upper up one.node (omega (arith, hangs, low, run.within, nodes.root)) above))
  | inr more ↦ more
]

same_run : (n : ℕ) (a : NodeArrays) (r s : Run) → AreNodes a → HasOwn n a → IsRunIn a r → IsRunIn a s → SameTo n (set_of a r) (set_of a s) → r ≡ s
same_run n a r s nodes own run other same =
    let back : SameTo n (set_of a s) (set_of a r) = λ v low high. sym (same v low high) in
    let first : s.0 ≡ r.0 = omega (arith, first_low n a r s nodes own run same, first_low n a s r nodes own other back) in
    let moved = subst (λ (f : ℕ). IsRunIn a (f, s.1)) first other in
    let there = subst (λ (f : ℕ). SameTo n (set_of a r) (set_of a (f, s.1))) first same in
    let long : r.1 ≡ s.1 = omega (arith, last_low n a r.0 r.1 s.1 nodes own run moved there, last_low n a r.0 s.1 r.1 nodes own moved run (λ v low high. sym (there v low high))) in
    λ i. (sym first i, long i)

-- ---- the minimum cuts

abbrev side_at : ℕ → NodeArrays → Run → List ℕ
side_at n a r = side_of n (set_of a r)

has_at : (n : ℕ) (x : VertexSet) (v : ℕ) → x 1 ≡ false → 1 ≤ v → v ≤ n → has (side_of n x) v ≡ x v
has_at n x v out low high = has-side_of n x v low high ∙ ap (λ (b : Bool). if b then not (x v) else x v) out

one_run : (n : ℕ) (a : NodeArrays) (r s : Run) → AreNodes a → a.homes 1 ≡ 0 → HasOwn n a → IsRunIn a r → IsRunIn a s → side_at n a r ≡ side_at n a s → r ≡ s
one_run n a r s nodes root own run other e =
    same_run n a r s nodes own run other (λ v low high.
    sym (has_at n (set_of a r) v (lacks_one a r nodes root run.low) low high) ∙ ap (λ (l : List ℕ). has l v) e ∙ has_at n (set_of a s) v (lacks_one a s nodes root other.low) low high)

same_side : (n : ℕ) (x y : VertexSet) → 1 ≤ n → SameTo n x y → side_of n x ≡ side_of n y
same_side n x y one same =
    filter-range (n - 1) 2 (parts x 1) (parts y 1) (λ v from upto.
    let at = same v (omega (arith, from)) (omega (arith, upto, one)) in
    let first = same 1 (omega arith) one in
    λ i. if first i then not (at i) else at i)

cut_has_run : (g : Graph) (a : NodeArrays) (l : List ℕ) → IsGraph g → 1 ≤ g.vertices → IsTreeOfAll g a → Contains (mincuts g) l →
    Contains (map (side_at g.vertices a) (runs_to a.links.follows (length a.links.uppers - 1))) l
cut_has_run g a l ok one tree there =
    let n = g.vertices in
    let follows = a.links.follows in
    let is = (IsSide-from_mincuts g l there).0 in
    let t = tree.complete (has l) (IsMinimumCut-from_mincuts g ok l there) (has_low 2 n 1 l is.ascending (omega arith)) in
    let r : Run = (t.first, t.last - t.first) in
    let ends : t.last ≡ r.0 + r.1 = omega (arith, t.ordered) in
    let run = runs_have follows (length a.links.uppers - 1) r.0 r.1 t.from_one (omega (arith, ends, t.below_count)) (subst (AreInCycle (is_follower follows) r.0) ends t.in_cycle) in
    let same : SameTo n (set_of a r) (has l) = λ v low high. same_tests (set_of a r v) (has l v)
    (λ h. let one = covers_one a.links.uppers r.0 r.1 (a.homes v) h in t.under.all one.node v one.from (omega (arith, one.upto, ends)) low high one.under)
    (λ h. let u = t.under.each v low high h in one_covers a.links.uppers r.0 r.1 (a.homes v) u.0 u.1 (omega (arith, u.2, ends)) u.3) in
    subst (Contains (map (side_at n a) (runs_to follows (length a.links.uppers - 1)))) (same_side n (set_of a r) (has l) one same ∙ side_of-has n l is)
    (Contains-map (side_at n a) (runs_to follows (length a.links.uppers - 1)) r run)

pub counted : (g : Graph) (a : NodeArrays) → IsGraph g → 1 ≤ g.vertices → IsTreeOfAll g a → AreFilled g.vertices a → HasDifferent (places_to a.links.follows (length a.links.uppers - 1)) (mincuts g)
counted g a ok one tree filled =
    let n = g.vertices in
    let own = own_vertex n a filled in
    let follows = a.links.follows in
    let last = length a.links.uppers - 1 in
    let runs = runs_to follows last in
    record {
      members = map (side_at n a) runs;
      different = different_map (side_at n a) runs (λ r s in_r in_s e. one_run n a r s tree.nodes tree.root own (runs_are follows last r in_r) (runs_are follows last s in_s) e) (runs_differ follows last);
      same = λ l. (
        λ c.
            let r = Contains-from_map (side_at n a) runs l c in
            subst (Contains (mincuts g)) r.2 (Contains-mincuts_side_of g ok (set_of a r.0) (tree.sound (set_of a r.0) (is_side n a r.0 tree.nodes (runs_are follows last r.0 r.1)))),
        cut_has_run g a l ok one tree,
      );
      many = mapped_length (side_at n a) runs ∙ runs_many follows last;
    }
