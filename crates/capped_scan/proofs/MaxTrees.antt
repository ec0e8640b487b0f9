-- Trees of maxima: what a write keeps, and how the first of the greatest leaves is found.
use Rattle.std.proofs.Common.{◌≡◌, ℕ, zero, suc, ◌+◌, ◌*◌, ◌^◌, ◌<◌, ◌≤◌, ⊎_elim, List, get_or, max, refl, sym, subst, ap, arith, pow-suc}
use Rattle.std.proofs.lemmas.Bool.{cases_lt}
use Rattle.capped_scan.specs.Maxima.{IsMaxTree}

abbrev pub NodeIs : List ℕ → ℕ → Type 0
NodeIs tree i = get_or tree i 0 ≡ max (get_or tree (2 * i) 0) (get_or tree (2 * i + 1) 0)

-- ---- building

-- ---- writing

-- ---- the leaves under a node

-- the first leaf under a node of this height
pub first_leaf : ℕ → ℕ → ℕ
first_leaf zero a = a
first_leaf (suc k) a = first_leaf k (2 * a)

pub first_leaf-zero : (a : ℕ) → first_leaf 0 a ≡ a
unfolding first_leaf
first_leaf-zero a = refl

pub first_leaf-suc : (k a : ℕ) → first_leaf (suc k) a ≡ first_leaf k (2 * a)
unfolding first_leaf
first_leaf-suc k a = refl

pub first_leaf-ge : (k a : ℕ) → a ≤ first_leaf k a
unfolding first_leaf
first_leaf-ge zero a = omega arith
first_leaf-ge (suc k) a = let r : 2 * a ≤ first_leaf k (2 * a) = first_leaf-ge k (2 * a) in omega arith

pub first_leaf-twice : (k a : ℕ) → first_leaf k (2 * a) ≡ 2 * first_leaf k a
unfolding first_leaf
first_leaf-twice zero a = refl
first_leaf-twice (suc k) a = first_leaf-twice k (2 * a)

-- the root of a tree of this height has all leaves
pub first_leaf-one : (k : ℕ) → first_leaf k 1 ≡ 2 ^ k
unfolding first_leaf
first_leaf-one zero = refl
first_leaf-one (suc k) =
    let twice : first_leaf k (2 * 1) ≡ 2 * first_leaf k 1 = first_leaf-twice k 1 in
    let rest : first_leaf k 1 ≡ 2 ^ k = first_leaf-one k in
    let power : 2 ^ (suc k) ≡ 2 * 2 ^ k = rw pow-suc (omega arith) in
    omega arith

pub first_leaf-two : (k : ℕ) → first_leaf k 2 ≡ 2 * 2 ^ k
first_leaf-two k =
    let twice : first_leaf k (2 * 1) ≡ 2 * first_leaf k 1 = first_leaf-twice k 1 in
    let rest : first_leaf k 1 ≡ 2 ^ k = first_leaf-one k in
    omega arith

pub leaf_up : (k a : ℕ) → first_leaf k a ≤ first_leaf k (a + 1)
unfolding first_leaf
leaf_up zero a = omega arith
leaf_up (suc k) a =
    let next : 2 * (a + 1) ≡ (2 * a + 1) + 1 = omega arith in
    let one : first_leaf k (2 * a) ≤ first_leaf k (2 * a + 1) = leaf_up k (2 * a) in
    let two : first_leaf k (2 * a + 1) ≤ first_leaf k ((2 * a + 1) + 1) = leaf_up k (2 * a + 1) in
    let e : first_leaf k (2 * (a + 1)) ≡ first_leaf k ((2 * a + 1) + 1) = ap (first_leaf k) next in
    omega arith

-- no leaf under a node has a greater number than the node
pub under : (size : ℕ) (tree : List ℕ) → IsMaxTree size tree → (k a j : ℕ) → 1 ≤ a → first_leaf k a ≤ j → j < first_leaf k (a + 1) → first_leaf k (a + 1) ≤ 2 * size →
    get_or tree j 0 ≤ get_or tree a 0
unfolding first_leaf
under size tree h zero a j one low high inside = let e : j ≡ a = omega arith in rw e (omega arith)
under size tree h (suc k) a j one low high inside =
    let next : 2 * (a + 1) ≡ (2 * a + 1) + 1 = omega arith in
    let inside' : first_leaf k ((2 * a + 1) + 1) ≤ 2 * size = subst (λ (b : ℕ). first_leaf k b ≤ 2 * size) next inside in
    let high' : j < first_leaf k ((2 * a + 1) + 1) = subst (λ (b : ℕ). j < first_leaf k b) next high in
    let reach : (2 * a + 1) + 1 ≤ first_leaf k ((2 * a + 1) + 1) = first_leaf-ge k ((2 * a + 1) + 1) in
    let node : get_or tree a 0 ≡ max (get_or tree (2 * a) 0) (get_or tree (2 * a + 1) 0) = h.nodes a one (omega arith) in
    let order : first_leaf k (2 * a + 1) ≤ first_leaf k ((2 * a + 1) + 1) = leaf_up k (2 * a + 1) in
    ⊎_elim
    (λ (l : j < first_leaf k (2 * a + 1)). let r : get_or tree j 0 ≤ get_or tree (2 * a) 0 = under size tree h k (2 * a) j (omega arith) low l (omega arith) in
    let t : get_or tree j 0 ≤ get_or tree a 0 = omega arith in t)
    (λ (l : first_leaf k (2 * a + 1) ≤ j). let r : get_or tree j 0 ≤ get_or tree (2 * a + 1) 0 = under size tree h k (2 * a + 1) j (omega arith) l high' inside' in
    let t : get_or tree j 0 ≤ get_or tree a 0 = omega arith in t)
    (cases_lt j (first_leaf k (2 * a + 1)))

-- ---- going down to the first of the greatest leaves

pub record IsDescent (size : ℕ) (tree : List ℕ) (k node : ℕ) : Type 0 where
  pub some : 1 ≤ node
  pub low : size ≤ first_leaf k node
  pub high : first_leaf k (node + 1) ≤ 2 * size
  pub greatest : get_or tree node 0 ≡ get_or tree 1 0
  pub before : (j : ℕ) → size ≤ j → j < first_leaf k node → get_or tree j 0 < get_or tree 1 0

pub descent_start : (k : ℕ) (tree : List ℕ) → IsDescent (2 ^ k) tree k 1
descent_start k tree = record {
  some = omega arith;
  low = omega (arith, first_leaf-one k);
  high = omega (arith, first_leaf-two k);
  greatest = refl;
  before = λ j l u. absurd (omega (arith, first_leaf-one k));
}

pub descent_node : (size : ℕ) (tree : List ℕ) (k node : ℕ) → IsDescent size tree (suc k) node → node < size
descent_node size tree k node h =
    let high : first_leaf k (2 * (node + 1)) ≤ 2 * size = rw (← first_leaf-suc) h.high in
    omega (arith, first_leaf-ge k (2 * (node + 1)))

pub descent_left : (size : ℕ) (tree : List ℕ) → IsMaxTree size tree → (k node : ℕ) → IsDescent size tree (suc k) node →
    get_or tree 1 0 ≤ get_or tree (2 * node) 0 → IsDescent size tree k (2 * node)
descent_left size tree t k node h is =
    let inner : node < size = descent_node size tree k node h in
    let some : 1 ≤ node = h.some in
    let max_is : get_or tree node 0 ≡ max (get_or tree (2 * node) 0) (get_or tree (2 * node + 1) 0) = t.nodes node some inner in
    let high : first_leaf k (2 * (node + 1)) ≤ 2 * size = subst (λ (x : ℕ). x ≤ 2 * size) (first_leaf-suc k (node + 1)) h.high in
    let high' : first_leaf k ((2 * node + 1) + 1) ≤ 2 * size = let e : 2 * (node + 1) ≡ (2 * node + 1) + 1 = omega arith in subst (λ (b : ℕ). first_leaf k b ≤ 2 * size) e high in
    record {
      some = omega arith;
      low = subst (λ (x : ℕ). size ≤ x) (first_leaf-suc k node) h.low;
      high = omega (arith, leaf_up k (2 * node + 1));
      greatest = omega (arith, h.greatest);
      before = λ j l u. h.before j l (subst (λ (x : ℕ). j < x) (sym (first_leaf-suc k node)) u);
    }

pub descent_right : (size : ℕ) (tree : List ℕ) → IsMaxTree size tree → (k node : ℕ) → IsDescent size tree (suc k) node →
    get_or tree (2 * node) 0 < get_or tree 1 0 → IsDescent size tree k (2 * node + 1)
descent_right size tree t k node h less =
    let inner : node < size = descent_node size tree k node h in
    let some : 1 ≤ node = h.some in
    let max_is : get_or tree node 0 ≡ max (get_or tree (2 * node) 0) (get_or tree (2 * node + 1) 0) = t.nodes node some inner in
    let high : first_leaf k (2 * (node + 1)) ≤ 2 * size = subst (λ (x : ℕ). x ≤ 2 * size) (first_leaf-suc k (node + 1)) h.high in
    let high' : first_leaf k ((2 * node + 1) + 1) ≤ 2 * size = let e : 2 * (node + 1) ≡ (2 * node + 1) + 1 = omega arith in subst (λ (b : ℕ). first_leaf k b ≤ 2 * size) e high in
    let low : size ≤ first_leaf k (2 * node) = subst (λ (x : ℕ). size ≤ x) (first_leaf-suc k node) h.low in
    record {
      some = omega arith;
      low = omega (arith, leaf_up k (2 * node));
      high = high';
      greatest = omega (arith, h.greatest);
      before = λ j l u. ⊎_elim
          (λ (a : j < first_leaf k (2 * node)). h.before j l (subst (λ (x : ℕ). j < x) (sym (first_leaf-suc k node)) a))
          (λ (a : first_leaf k (2 * node) ≤ j). let r : get_or tree j 0 ≤ get_or tree (2 * node) 0 = under size tree t k (2 * node) j (omega arith) a u (omega (arith, leaf_up k (2 * node + 1))) in
          let s : get_or tree j 0 < get_or tree 1 0 = omega arith in s)
          (cases_lt j (first_leaf k (2 * node)));
    }

-- no leaf has a greater number than the root
pub root_greatest : (k : ℕ) (tree : List ℕ) → IsMaxTree (2 ^ k) tree → (j : ℕ) → 2 ^ k ≤ j → j < 2 * 2 ^ k → get_or tree j 0 ≤ get_or tree 1 0
root_greatest k tree t j low high = under (2 ^ k) tree t k 1 j (omega arith) (omega (arith, first_leaf-one k)) (omega (arith, first_leaf-two k)) (omega (arith, first_leaf-two k))
