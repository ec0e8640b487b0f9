-- What is under the nodes that were made for the parts of a region.
use Rattle.std.proofs.Common.{◌≡◌, ℕ, suc, zero, ◌+◌, ◌-◌, ◌<◌, ◌≤◌, ◌⊎◌, inl, inr, ⊎_elim, Bool, true, false, ◌&&◌, ◌||◌, eqb, ltb, List, length, get_or, refl, sym, ◌∙◌, subst, ap, arith}
use Rattle.std.specs.Prelude.{◌≢◌}
use Rattle.std.proofs.lemmas.Bool.{cases_lt, cases_eq, eq-eqb, ne_eqb, le-leb, lt-leb}
use Rattle.std.proofs.lemmas.Bool.Decides.{nat_tests}
use Rattle.cut_definitions.specs.Graph.{Graph}
use Rattle.cut_definitions.specs.Chain.{SameOn, one_part}
use Rattle.cut_definitions.proofs.Bools.{contrary, kept_or}
use Rattle.region_flow.specs.Parted.{later_parts}
use Rattle.node_tree.specs.Flat.{NodeArrays, is_above, is_below, is_follower, sets_of, IsMadeBelow, IsMadeAfter, IsMadeBeyond, AreMade, IsSteadyAt}
use Rattle.node_tree.specs.Laws.{LawOfMaking}

-- ---- going up

abbrev Descend : List ℕ → ℕ → Type 0
Descend u size = (i : ℕ) → 1 ≤ i → i < size → get_or u i 0 < i

not_below_zero : (k : ℕ) → ltb k 0 ≡ false
not_below_zero k = grind (arith, nat_tests)

at_root : (u : List ℕ) (f k : ℕ) → is_above u f k 0 ≡ eqb 0 k
at_root u zero k = refl
at_root u (suc f) k = kept_or (eqb 0 k) (ltb k 0) (is_above u f k (get_or u 0 0)) (not_below_zero k)

up_once : (u : List ℕ) (f x k : ℕ) → 1 ≤ f → is_above u f k x ≡ (eqb x k || (ltb k x && is_above u (f - 1) k (get_or u x 0)))
up_once u zero x k h = absurd (omega arith)
up_once u (suc f) x k h =
    let e : f ≡ suc f - 1 = omega arith in
    subst (λ (d : ℕ). is_above u (suc f) k x ≡ (eqb x k || (ltb k x && is_above u d k (get_or u x 0)))) e refl

-- more steps than the number of the node change nothing
enough : (u : List ℕ) (size : ℕ) → Descend u size → (b x f f' k : ℕ) → x ≤ b → x < size → x ≤ f → x ≤ f' → is_above u f k x ≡ is_above u f' k x
enough u size down zero x f f' k le lt lf lf' =
    let e : 0 ≡ x = omega arith in
    subst (λ (y : ℕ). is_above u f k y ≡ is_above u f' k y) e (at_root u f k ∙ sym (at_root u f' k))
enough u size down (suc b) x f f' k le lt lf lf' =
    ⊎_elim
    (λ (e : x ≡ 0). subst (λ (y : ℕ). is_above u f k y ≡ is_above u f' k y) (sym e) (at_root u f k ∙ sym (at_root u f' k)))
    (λ ne.
    let low = down x (omega arith) lt in
    let rest = enough u size down b (get_or u x 0) (f - 1) (f' - 1) k (omega arith) (omega arith) (omega arith) (omega arith) in
    up_once u f x k (omega arith) ∙ ap (λ (r : Bool). eqb x k || (ltb k x && r)) rest ∙ sym (up_once u f' x k (omega arith)))
    (cases_eq x 0)

pub below_step : (u : List ℕ) (size : ℕ) → Descend u size → (x k : ℕ) → 1 ≤ x → x < size → is_below u k x ≡ (eqb x k || (ltb k x && is_below u k (get_or u x 0)))
below_step u size down x k one lt =
    let low = down x one lt in
    up_once u x x k one ∙ ap (λ (r : Bool). eqb x k || (ltb k x && r)) (enough u size down (get_or u x 0) (get_or u x 0) (x - 1) (get_or u x 0) k (omega arith) (omega arith) (omega arith) (omega arith))

-- lists that agree on the old nodes
pub kept_above : (u u' : List ℕ) (size : ℕ) → Descend u size → ((i : ℕ) → i < size → get_or u' i 0 ≡ get_or u i 0) → (f x k : ℕ) → x < size → is_above u' f k x ≡ is_above u f k x
kept_above u u' size down same zero x k lt = refl
kept_above u u' size down same (suc f) x k lt =
    ⊎_elim
    (λ (e : x ≡ 0). subst (λ (y : ℕ). is_above u' (suc f) k y ≡ is_above u (suc f) k y) (sym e) (at_root u' (suc f) k ∙ sym (at_root u (suc f) k)))
    (λ ne.
    let low = down x (omega arith) lt in
    let rest = kept_above u u' size down same f (get_or u x 0) k (omega arith) in
    ap (λ (y : ℕ). eqb x k || (ltb k x && is_above u' f k y)) (same x lt) ∙ ap (λ (r : Bool). eqb x k || (ltb k x && r)) rest)
    (cases_eq x 0)

step_up : (x k : ℕ) (r : Bool) → k < x → (eqb x k || (ltb k x && r)) ≡ r
step_up x k r h = grind (arith, nat_tests)

step_here : (x k : ℕ) (r : Bool) → x ≡ k → (eqb x k || (ltb k x && r)) ≡ true
step_here x k r h = grind (arith, nat_tests)

step_low : (x k : ℕ) (r : Bool) → x < k → (eqb x k || (ltb k x && r)) ≡ false
step_low x k r h = grind (arith, nat_tests)

eqb_low : (x k : ℕ) → x < k → eqb x k ≡ false
eqb_low x k h = grind (arith, nat_tests)

-- a node with a lesser number is not below
pub not_below : (u : List ℕ) (size : ℕ) → Descend u size → (x k : ℕ) → x < size → x < k → is_below u k x ≡ false
not_below u size down x k lt low = ⊎_elim
    (λ (e : x ≡ 0). subst (λ (y : ℕ). is_below u k y ≡ false) (sym e) (at_root u 0 k ∙ eqb_low 0 k (omega arith)))
    (λ ne. below_step u size down x k (omega arith) lt ∙ step_low x k (is_below u k (get_or u x 0)) low)
    (cases_eq x 0)

pub itself : (u : List ℕ) (size : ℕ) → Descend u size → (k : ℕ) → k < size → is_below u k k ≡ true
itself u size down k lt = ⊎_elim
    (λ (e : k ≡ 0). subst (λ (y : ℕ). is_below u y y ≡ true) (sym e) (at_root u 0 0 ∙ eq-eqb 0 0 refl))
    (λ ne. below_step u size down k k (omega arith) lt ∙ step_here k k (is_below u k (get_or u k 0)) refl)
    (cases_eq k 0)

-- where no node after k hangs from one before it, all are below it
all_below : (u : List ℕ) (size : ℕ) → Descend u size → (k : ℕ) → ((x : ℕ) → k < x → x < size → k ≤ get_or u x 0) →
    (b x : ℕ) → x ≤ b → k ≤ x → x < size → is_below u k x ≡ true
all_below u size down k high zero x le from lt =
    let e : k ≡ x = omega arith in
    subst (λ (y : ℕ). is_below u k y ≡ true) e (itself u size down k (omega arith))
all_below u size down k high (suc b) x le from lt = ⊎_elim
    (λ (e : x ≡ k). subst (λ (y : ℕ). is_below u k y ≡ true) (sym e) (itself u size down k (omega (arith, e, lt))))
    (λ ne.
    let low = down x (omega (arith, ne, from)) lt in
    let up = high x (omega (arith, ne, from)) lt in
    below_step u size down x k (omega (arith, ne, from)) lt ∙ step_up x k (is_below u k (get_or u x 0)) (omega (arith, ne, from)) ∙ all_below u size down k high b (get_or u x 0) (omega (arith, low, le)) up (omega (arith, low, lt)))
    (cases_eq x k)

-- where no node hangs from k, none but it is below it
none_below : (u : List ℕ) (size : ℕ) → Descend u size → (k : ℕ) → ((x : ℕ) → k < x → x < size → get_or u x 0 ≢ k) →
    (b x : ℕ) → x ≤ b → k ≢ x → x < size → is_below u k x ≡ false
none_below u size down k free zero x le ne lt = not_below u size down x k lt (omega arith)
none_below u size down k free (suc b) x le ne lt = ⊎_elim
    (λ (l : x < k). not_below u size down x k lt l)
    (λ (l : k ≤ x).
    let low = down x (omega arith) lt in
    let other = free x (omega arith) lt in
    below_step u size down x k (omega arith) lt ∙ step_up x k (is_below u k (get_or u x 0)) (omega arith) ∙ none_below u size down k free b (get_or u x 0) (omega (arith, low, le)) (λ e. other (sym e)) (omega (arith, low, lt)))
    (cases_lt x k)

-- new nodes, which all hang from one node or each other, are below the old nodes that this one is below
pub through : (u : List ℕ) (size old node : ℕ) → Descend u size → ((x : ℕ) → old ≤ x → x < size → (get_or u x 0 ≡ node) ⊎ (old ≤ get_or u x 0)) → 1 ≤ old →
    (k : ℕ) → k < old → (b x : ℕ) → x ≤ b → old ≤ x → x < size → is_below u k x ≡ is_below u k node
through u size old node down from one k lk zero x le ge lt = absurd (omega arith)
through u size old node down from one k lk (suc b) x le ge lt =
    let low = down x (omega arith) lt in
    below_step u size down x k (omega arith) lt ∙ step_up x k (is_below u k (get_or u x 0)) (omega arith) ∙ ⊎_elim
    (λ (e : get_or u x 0 ≡ node). ap (λ (y : ℕ). is_below u k y) e)
    (λ h. through u size old node down from one k lk b (get_or u x 0) (omega (arith, low, le)) h (omega (arith, low, lt)))
    (from x ge lt)

-- ---- the nodes that were made

record AreFar (g : Graph) (count : ℕ) (at : ℕ → ℕ) (old node : ℕ) (a : NodeArrays) (i : ℕ) : Type 0 where
  before : at i < length a.links.uppers
  ordered : (j : ℕ) → i < j → j ≤ count → at i < at j
  upper : (x : ℕ) → at i ≤ x → x < length a.links.uppers → (get_or a.links.uppers x 0 ≡ get_or a.links.uppers (at i) 0) ⊎ (at i ≤ get_or a.links.uppers x 0)

far : (g : Graph) (count : ℕ) (part : ℕ → ℕ) (at : ℕ → ℕ) (node : ℕ) (a a' : NodeArrays) → AreMade g count part at node a a' →
    (m i : ℕ) → i + m ≡ count → 2 ≤ i → AreFar g count at (length a.links.uppers) node a' i
far g count part at node a a' made zero i e two =
    let is : count ≡ i = omega arith in
    subst (λ (k : ℕ). AreFar g count at (length a.links.uppers) node a' k) is (record {
      before = omega (arith, made.linked.last);
      ordered = λ j l u. absurd (omega arith);
      upper = λ x l u. let same : x ≡ at count = omega (arith, made.linked.last, l, u) in inl (ap (λ (y : ℕ). get_or a'.links.uppers y 0) same);
    })
far g count part at node a a' made (suc m) i e two =
    let rest = far g count part at node a a' made m (i + 1) (omega arith) (omega arith) in
    let u = a'.links.uppers in
    let next : at i < at (i + 1) = ⊎_elim
    (λ (b : IsMadeBelow g count part at a'.links i). omega (arith, b.next))
    (⊎_elim (λ (b : IsMadeAfter g count part at a'.links i). omega (arith, b.next)) (λ (b : IsMadeBeyond g count part at a'.links i). omega (arith, b.next)))
    (made.linked.each i two (omega arith)) in
    record {
      before = omega (arith, next, rest.before);
      ordered = λ j l h. ⊎_elim
          (λ (q : j ≡ i + 1). subst (λ (k : ℕ). at i < at k) (sym q) next)
          (λ ne. let r = rest.ordered j (omega arith) h in omega (arith, r, next))
          (cases_eq j (i + 1));
      upper = λ x l h. ⊎_elim
          (λ (q : x ≡ at i). inl (ap (λ (y : ℕ). get_or u y 0) q))
          (λ ne. ⊎_elim
          (λ (b : IsMadeBelow g count part at a'.links i). inr (⊎_elim
          (λ (q : get_or u x 0 ≡ get_or u (at (i + 1)) 0).
          let p : get_or u (at (i + 1)) 0 ≡ at i = ap (λ (y : ℕ). get_or u y 0) b.next ∙ b.upper in omega (arith, q, p))
          (λ q. omega (arith, q, next))
          (rest.upper x (omega (arith, b.next, ne, l)) h)))
          (⊎_elim
          (λ (b : IsMadeAfter g count part at a'.links i). ⊎_elim
          (λ (q : get_or u x 0 ≡ get_or u (at (i + 1)) 0). inl (q ∙ ap (λ (y : ℕ). get_or u y 0) b.next ∙ b.upper))
          (λ q. inr (omega (arith, q, next)))
          (rest.upper x (omega (arith, b.next, ne, l)) h))
          (λ (b : IsMadeBeyond g count part at a'.links i). ⊎_elim
          (λ (q : x ≡ at i + 1). inl (ap (λ (y : ℕ). get_or u y 0) q ∙ b.upper_between))
          (λ ne'. inr (⊎_elim
          (λ (q : get_or u x 0 ≡ get_or u (at (i + 1)) 0).
          let p : get_or u (at (i + 1)) 0 ≡ at i + 1 = ap (λ (y : ℕ). get_or u y 0) b.next ∙ b.upper in omega (arith, q, p))
          (λ q. omega (arith, q, next))
          (rest.upper x (omega (arith, b.next, ne, ne', l)) h)))
          (cases_eq x (at i + 1))))
          (made.linked.each i two (omega arith)))
          (cases_eq x (at i));
    }

-- each node that was made hangs from one with a lesser number
descends : (g : Graph) (count : ℕ) (part : ℕ → ℕ) (at : ℕ → ℕ) (node : ℕ) (a a' : NodeArrays) → AreMade g count part at node a a' →
    (m i : ℕ) → i + m ≡ count → 2 ≤ i → get_or a'.links.uppers (at i) 0 < at i → (x : ℕ) → at i ≤ x → x < length a'.links.uppers → get_or a'.links.uppers x 0 < x
descends g count part at node a a' made zero i e two low x l h =
    let is : count ≡ i = omega arith in
    let same : x ≡ at i = subst (λ (k : ℕ). at k ≤ x → x ≡ at k) is (λ (from : at count ≤ x). omega (arith, made.linked.last, h, from)) l in
    subst (λ (k : ℕ). get_or a'.links.uppers k 0 < k) (sym same) low
descends g count part at node a a' made (suc m) i e two low x l h =
    let u = a'.links.uppers in
    let rest = descends g count part at node a a' made m (i + 1) (omega arith) (omega arith) in
    ⊎_elim
    (λ (q : x ≡ at i). subst (λ (k : ℕ). get_or u k 0 < k) (sym q) low)
    (λ ne. ⊎_elim
    (λ (b : IsMadeBelow g count part at a'.links i).
    let p : get_or u (at (i + 1)) 0 ≡ at i = ap (λ (y : ℕ). get_or u y 0) b.next ∙ b.upper in
    rest (omega (arith, p, b.next)) x (omega (arith, b.next, ne, l)) h)
    (⊎_elim
    (λ (b : IsMadeAfter g count part at a'.links i).
    let p : get_or u (at (i + 1)) 0 ≡ get_or u (at i) 0 = ap (λ (y : ℕ). get_or u y 0) b.next ∙ b.upper in
    rest (omega (arith, p, b.next, low)) x (omega (arith, b.next, ne, l)) h)
    (λ (b : IsMadeBeyond g count part at a'.links i).
    let p : get_or u (at (i + 1)) 0 ≡ at i + 1 = ap (λ (y : ℕ). get_or u y 0) b.next ∙ b.upper in
    ⊎_elim
    (λ (q : x ≡ at i + 1). let r : get_or u x 0 ≡ get_or u (at i) 0 = ap (λ (y : ℕ). get_or u y 0) q ∙ b.upper_between in omega (arith, r, low, q))
    (λ ne'. rest (omega (arith, p, b.next)) x (omega (arith, b.next, ne, ne', l)) h)
    (cases_eq x (at i + 1))))
    (made.linked.each i two (omega arith)))
    (cases_eq x (at i))

-- a node that was made and follows another hangs from the same node
steadies : (g : Graph) (count : ℕ) (part : ℕ → ℕ) (at : ℕ → ℕ) (node : ℕ) (a a' : NodeArrays) → AreMade g count part at node a a' →
    (m i : ℕ) → i + m ≡ count → 2 ≤ i → 1 ≤ at i → IsSteadyAt a'.links (at i) → (x : ℕ) → at i ≤ x → x < length a'.links.uppers → IsSteadyAt a'.links x
steadies g count part at node a a' made zero i e two one here x l h =
    let is : count ≡ i = omega arith in
    let same : x ≡ at i = subst (λ (k : ℕ). at k ≤ x → x ≡ at k) is (λ (from : at count ≤ x). omega (arith, made.linked.last, h, from)) l in
    subst (λ (k : ℕ). IsSteadyAt a'.links k) (sym same) here
steadies g count part at node a a' made (suc m) i e two one here x l h =
    let u = a'.links.uppers in
    let rest = steadies g count part at node a a' made m (i + 1) (omega arith) (omega arith) in
    ⊎_elim
    (λ (q : x ≡ at i). subst (λ (k : ℕ). IsSteadyAt a'.links k) (sym q) here)
    (λ ne. ⊎_elim
    (λ (b : IsMadeBelow g count part at a'.links i).
    rest (omega (arith, b.next)) (λ f. absurd (contrary (ap (is_follower a'.links.follows) (sym b.next) ∙ f) b.apart)) x (omega (arith, b.next, ne, l)) h)
    (⊎_elim
    (λ (b : IsMadeAfter g count part at a'.links i).
    let before : at (i + 1) - 1 ≡ at i = omega (arith, b.next) in
    rest (omega (arith, b.next)) (λ f. (omega (arith, b.next, one), ap (λ (y : ℕ). get_or u y 0) b.next ∙ b.upper ∙ sym (ap (λ (y : ℕ). get_or u y 0) before))) x (omega (arith, b.next, ne, l)) h)
    (λ (b : IsMadeBeyond g count part at a'.links i).
    ⊎_elim
    (λ (q : x ≡ at i + 1).
    let before : at i + 1 - 1 ≡ at i = omega arith in
    subst (λ (k : ℕ). IsSteadyAt a'.links k) (sym q) (λ f. (omega (arith, one), b.upper_between ∙ sym (ap (λ (y : ℕ). get_or u y 0) before))))
    (λ ne'. rest (omega (arith, b.next)) (λ f. absurd (contrary (ap (is_follower a'.links.follows) (sym b.next) ∙ f) b.apart)) x (omega (arith, b.next, ne, ne', l)) h)
    (cases_eq x (at i + 1))))
    (made.linked.each i two (omega arith)))
    (cases_eq x (at i))

pub making : LawOfMaking
making g region t count part at node a a' ch nodes made homes =
    let n = g.vertices in
    let num = ch.numbered in
    let u = a'.links.uppers in
    let size = length a'.links.uppers in
    let old = length a.links.uppers in
    let two : 2 ≤ count = num.two in
    let far_at : (i : ℕ) → 2 ≤ i → i ≤ count → AreFar g count at old node a' i = λ i low high. far g count part at node a a' made (count - i) i (omega arith) low in
    let first_low : get_or u (at 2) 0 < at 2 = omega (arith, made.linked.first_upper, made.linked.node_before, made.linked.first) in
    let down : Descend u size = λ i one lt. ⊎_elim
    (λ (l : i < old). let k = made.linked.uppers_kept i l in let d = nodes.upper i one l in omega (arith, k, d))
    (λ (l : old ≤ i). descends g count part at node a a' made (count - 2) 2 (omega arith) (omega arith) first_low i (omega (arith, made.linked.first, l)) lt)
    (cases_lt i old) in
    let steady : (i : ℕ) → 1 ≤ i → i < size → IsSteadyAt a'.links i = λ i one lt. ⊎_elim
    (λ (l : i < old). λ f.
    let was = nodes.steady i one l (sym (made.linked.follows_kept i l) ∙ f) in
    (was.0, made.linked.uppers_kept i l ∙ was.1 ∙ sym (made.linked.uppers_kept (i - 1) (omega (arith, l)))))
    (λ (l : old ≤ i). steadies g count part at node a a' made (count - 2) 2 (omega arith) (omega arith) (omega (arith, made.linked.first, nodes.root))
    (λ f. absurd (contrary f made.linked.first_apart)) i (omega (arith, made.linked.first, l)) lt)
    (cases_lt i old) in
    let old_kept : (x k : ℕ) → x < old → is_below u k x ≡ is_below a.links.uppers k x = λ x k lt. kept_above a.links.uppers u old nodes.upper made.linked.uppers_kept x x k lt in
    let from_node : (x : ℕ) → old ≤ x → x < size → (get_or u x 0 ≡ node) ⊎ (old ≤ get_or u x 0) = λ x l h. ⊎_elim
    (λ q. inl (q ∙ made.linked.first_upper))
    (λ q. inr (omega (arith, q, made.linked.first)))
    ((far_at 2 (omega arith) two).upper x (omega (arith, made.linked.first, l)) h) in
    let at_old : (i : ℕ) → 2 ≤ i → i ≤ count → old ≤ at i = λ i low high. ⊎_elim
    (λ (q : i ≡ 2). subst (λ (k : ℕ). old ≤ at k) (sym q) (omega (arith, made.linked.first)))
    (λ ne. let r = (far_at 2 (omega arith) two).ordered i (omega arith) high in omega (arith, r, made.linked.first))
    (cases_eq i 2) in
    let to_count : (v : ℕ) → 1 ≤ v → v ≤ n → part v ≤ count = num.to_count in
    -- what is under a node from which all later ones hang
    let later_at : (k i : ℕ) → old ≤ k → k < size → 2 ≤ i → ((x : ℕ) → k < x → x < size → k ≤ get_or u x 0) → ((j : ℕ) → i ≤ j → j ≤ count → k ≤ at j) →
    ((j : ℕ) → 2 ≤ j → j < i → j ≤ count → at j < k) → SameOn n ((sets_of a').under k) (later_parts part i) =
    λ k i ge lt low high above under v v1 vn. ⊎_elim
    (λ (l : part v < 2).
    let e = made.homes_first v v1 vn l in
    let h = nodes.homes v in
    ap (λ (y : ℕ). is_below u k y) e ∙ not_below u size down (a.homes v) k (omega (arith, h, made.linked.more)) (omega (arith, h, ge)) ∙ sym (lt-leb i (part v) (omega arith)))
    (λ (l : 2 ≤ part v).
    let e = made.homes_later v v1 vn l in
    let placed = (far_at (part v) l (to_count v v1 vn)).before in
    ap (λ (y : ℕ). is_below u k y) e ∙ ⊎_elim
    (λ (q : part v < i). not_below u size down (at (part v)) k placed (under (part v) l q (to_count v v1 vn)) ∙ sym (lt-leb i (part v) q))
    (λ (q : i ≤ part v). all_below u size down k high (at (part v)) (at (part v)) (omega arith) (above (part v) q (to_count v v1 vn)) placed ∙ sym (le-leb i (part v) q))
    (cases_lt (part v) i))
    (cases_lt (part v) 2) in
    let one_at : (i : ℕ) → 2 ≤ i → i ≤ count → ((x : ℕ) → at i < x → x < size → get_or u x 0 ≢ at i) → SameOn n ((sets_of a').under (at i)) (one_part part i) =
    λ i low le free v v1 vn. ⊎_elim
    (λ (l : part v < 2).
    let e = made.homes_first v v1 vn l in
    let h = nodes.homes v in
    let ge = at_old i low le in
    ap (λ (y : ℕ). is_below u (at i) y) e ∙ not_below u size down (a.homes v) (at i) (omega (arith, h, made.linked.more)) (omega (arith, h, ge)) ∙ sym (eqb_low (part v) i (omega arith)))
    (λ (l : 2 ≤ part v).
    let e = made.homes_later v v1 vn l in
    let placed = (far_at (part v) l (to_count v v1 vn)).before in
    ap (λ (y : ℕ). is_below u (at i) y) e ∙ ⊎_elim
    (λ (q : part v ≡ i). ap (λ (j : ℕ). is_below u (at i) (at j)) q ∙ itself u size down (at i) (far_at i low le).before ∙ sym (eq-eqb (part v) i q))
    (λ ne.
    let apart : at i ≢ at (part v) = λ s. ⊎_elim
    (λ (q : i < part v). absurd (omega (arith, s, (far_at i low le).ordered (part v) q (to_count v v1 vn))))
    (λ (q : part v ≤ i). absurd (omega (arith, s, (far_at (part v) l (to_count v v1 vn)).ordered i (omega (arith, q, ne)) le)))
    (cases_lt i (part v)) in
    none_below u size down (at i) free (at (part v)) (at (part v)) (omega arith) apart placed ∙ sym (ne_eqb (part v) i ne))
    (cases_eq (part v) i))
    (cases_lt (part v) 2) in
    let upto : (i j : ℕ) → 2 ≤ i → i ≤ count → i ≤ j → j ≤ count → at i ≤ at j = λ i j low high l h. ⊎_elim
    (λ (q : i ≡ j). subst (λ (k : ℕ). at i ≤ at k) q (omega arith))
    (λ ne. let r = (far_at i low high).ordered j (omega (arith, ne, l)) h in omega (arith, r))
    (cases_eq i j) in
    let before : (i j : ℕ) → 2 ≤ j → j < i → i ≤ count → at j < at i = λ i j low l high. (far_at j low (omega arith)).ordered i l high in (
      record { root = omega (arith, nodes.root, made.linked.more); homes = homes; upper = down; steady = steady },
      record {
        some = nodes.root;
        more = made.linked.more;
        under_kept = λ i lt v v1 vn. ⊎_elim
            (λ (l : part v < 2).
            let e = made.homes_first v v1 vn l in
            ap (λ (y : ℕ). is_below u i y) e ∙ old_kept (a.homes v) i (nodes.homes v))
            (λ (l : 2 ≤ part v).
            let e = made.homes_later v v1 vn l in
            let le = to_count v v1 vn in
            ap (λ (y : ℕ). is_below u i y) e ∙ through u size old node down from_node nodes.root i lt (at (part v)) (at (part v)) (omega arith) (at_old (part v) l le) (far_at (part v) l le).before
            ∙ old_kept node i made.linked.node_before ∙ ap (λ (y : ℕ). is_below a.links.uppers i y) (sym (made.home v v1 vn l)))
            (cases_lt (part v) 2);
        follows_kept = made.linked.follows_kept;
      },
      record {
        first = made.linked.first;
        apart = subst (λ (k : ℕ). is_follower a'.links.follows k ≡ false) made.linked.first made.linked.first_apart;
        each = λ i low lt.
            let next = far_at (i + 1) (omega arith) (omega arith) in
            let here = far_at i low (omega arith) in
            ⊎_elim
            (λ (b : IsMadeBelow g count part at a'.links i). inl (record {
              next = b.next;
              apart = b.apart;
              not_light = b.not_light;
              under = later_at (at i) i (at_old i low (omega arith)) here.before low
                  (λ x l h. ⊎_elim
                  (λ q. let p = ap (λ (y : ℕ). get_or u y 0) b.next ∙ b.upper in omega (arith, q, p))
                  (λ q. omega (arith, q, b.next))
                  (next.upper x (omega (arith, b.next, l)) h))
                  (λ j l h. upto i j low (omega arith) l h) (λ j l h k. before i j l h (omega arith));
            }))
            (⊎_elim
            (λ (b : IsMadeAfter g count part at a'.links i). inr (inl (record {
              next = b.next;
              follows = b.follows;
              light = b.light;
              pair = b.pair;
              under = one_at i low (omega arith) (λ x l h e. ⊎_elim
                  (λ q. let p = ap (λ (y : ℕ). get_or u y 0) b.next ∙ b.upper in let d = down (at i) (omega (arith, at_old i low (omega arith), nodes.root)) here.before in absurd (omega (arith, e, q, p, d)))
                  (λ q. absurd (omega (arith, q, e, b.next)))
                  (next.upper x (omega (arith, b.next, l)) h));
            })))
            (λ (b : IsMadeBeyond g count part at a'.links i). inr (inr (record {
              next = b.next;
              follows = b.follows;
              apart = b.apart;
              light = b.light;
              no_pair = b.no_pair;
              under = one_at i low (omega arith) (λ x l h e. ⊎_elim
                  (λ (s : x ≡ at i + 1).
                  let p : get_or u x 0 ≡ get_or u (at i) 0 = ap (λ (y : ℕ). get_or u y 0) s ∙ b.upper_between in
                  let d = down (at i) (omega (arith, at_old i low (omega arith), nodes.root)) here.before in absurd (omega (arith, e, p, d)))
                  (λ ne. ⊎_elim
                  (λ q. let p = ap (λ (y : ℕ). get_or u y 0) b.next ∙ b.upper in absurd (omega (arith, e, q, p)))
                  (λ q. absurd (omega (arith, q, e, b.next)))
                  (next.upper x (omega (arith, b.next, l, ne)) h))
                  (cases_eq x (at i + 1)));
              under_between = later_at (at i + 1) (i + 1) (omega (arith, at_old i low (omega arith))) (omega (arith, next.before, b.next)) (omega arith)
                  (λ x l h. ⊎_elim
                  (λ q. let p = ap (λ (y : ℕ). get_or u y 0) b.next ∙ b.upper in omega (arith, q, p))
                  (λ q. omega (arith, q, b.next))
                  (next.upper x (omega (arith, b.next, l)) h))
                  (λ j l h. let r = upto (i + 1) j (omega arith) (omega arith) l h in omega (arith, r, b.next))
                  (λ j l h k. let r = upto j i l k (omega arith) (omega arith) in omega (arith, r));
            }))))
            (made.linked.each i low lt);
        last = made.linked.last;
        last_under = later_at (at count) count (at_old count two (omega arith)) (far_at count two (omega arith)).before two
            (λ x l h. absurd (omega (arith, l, h, made.linked.last)))
            (λ j l h. upto count j two (omega arith) l h) (λ j l h k. before count j l h (omega arith));
      },
    )
