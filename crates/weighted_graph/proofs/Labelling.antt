-- Labels after labels, and lifted sets.
use Rattle.std.proofs.Common.{◌≡◌, ℕ, zero, suc, ◌+◌, ◌-◌, ◌<◌, ◌≤◌, ⊎_elim, Bool, true, false, not, cond, ◌||◌, eqb, max, List, [], ◌∷◌, map, length, refl, sym, ◌∙◌, subst, ap, arith}
use Rattle.std.specs.Prelude.{◌≢◌}
use Rattle.std.specs.List.{All, Contains, fold, filter, range_with_len}
use Rattle.std.proofs.lemmas.Bool.{cases_eq, eq-eqb, ne_eqb}
use Rattle.std.proofs.lemmas.List.{get_or_default, get_or-map, length-map}
use Rattle.std.proofs.lemmas.List.Elements.{All-map, All-weaker}
use Rattle.std.proofs.Math.Bool.{or-false, or-true}
use Rattle.cut_definitions.specs.Cuts.{has, IsAscendingWithin}
use Rattle.cut_definitions.specs.Weight.{either}
use Rattle.cut_definitions.specs.Scan.{single}
use Rattle.cut_definitions.specs.Contraction.{label, classes, IsLabels, lift}
use Rattle.cut_definitions.proofs.Lists.{Contains-nil, Contains-cons_cases, Contains-filter}
use Rattle.cut_definitions.proofs.Bridge.{IsAscendingWithin-filter, same_ascending, has_within}
use Rattle.cut_definitions.proofs.ListLaws.{length-filter_le}
use Rattle.vertex_set.specs.Side.{VertexList, listed}
use Rattle.vertex_set.proofs.Bits.{has-listed}
use Rattle.weighted_graph.proofs.Contraction.{label_from_one, label_to_classes, vertex_of, fold_max-get_or}

-- the class of a class
pub label-map : (labels next : List ℕ) (v : ℕ) → 1 ≤ v → v ≤ length labels → label (map (label next) labels) v ≡ label next (label labels v)
label-map labels next v l u = get_or-map (label next) labels (v - 1) 0 0 (omega arith)

fold_max-bound : (xs : List ℕ) (a m : ℕ) → a ≤ m → All (λ x. x ≤ m) xs → fold max a xs ≤ m
fold_max-bound [] a m le all = le
fold_max-bound (x ∷ xs) a m le all =
    let first : x ≤ m = all 0 0 (omega arith) in
    fold_max-bound xs (max a x) m (omega arith) (λ k d l. all (suc k) d (omega arith))

pub composed_are_labels : (labels next : List ℕ) → IsLabels labels → IsLabels next → length next ≡ classes labels → IsLabels (map (label next) labels)
composed_are_labels labels next h hn long =
    let each : All (λ c. (1 ≤ c) × (c ≤ length next)) labels = λ k d l.
    let c_le = fold_max-get_or labels 0 k l in
    let same = get_or_default labels k d 0 l in
    (h.from_one k d l, omega arith) in
    record {
      from_one = All-map (λ c. 1 ≤ c) (label next) labels (All-weaker (λ c. (1 ≤ c) × (c ≤ length next)) (λ c. 1 ≤ label next c) (λ c b. label_from_one next hn c b.0 b.1) labels each);
      used = λ c l u.
          let bound = fold_max-bound (map (label next) labels) 0 (classes next) (omega arith)
          (All-map (λ x. x ≤ classes next) (label next) labels (All-weaker (λ c. (1 ≤ c) × (c ≤ length next)) (λ c. label next c ≤ classes next) (λ c b. label_to_classes next c b.0 b.1) labels each)) in
          let d = vertex_of next hn c l (omega arith) in
          let v = vertex_of labels h d.0 d.1 (omega (arith, d.2)) in
          let is : label (map (label next) labels) v.0 ≡ c = label-map labels next v.0 v.1 v.2 ∙ (ap (label next) v.3 ∙ d.3) in
          let v_one : 1 ≤ v.0 = v.1 in
          let v_in : v.0 - 1 < length (map (label next) labels) = omega (arith, v.1, v.2, length-map labels (label next)) in
          (v.0 - 1, v_in, get_or_default (map (label next) labels) (v.0 - 1) c 0 v_in ∙ is);
      first = λ some.
          let one_in : 1 ≤ length labels = omega (arith, length-map labels (label next)) in
          let one = h.first one_in in
          let k_one : 1 ≤ length next = omega (arith, long, label_to_classes labels 1 (omega arith) one_in) in
          label-map labels next 1 (omega arith) one_in ∙ (ap (label next) one ∙ hn.first k_one);
    }

-- ---- a lifted set, vertex by vertex

-- the lift as far as a vertex
pub record IsLiftedTo (labels side : List ℕ) (n v : ℕ) (s : VertexList) : Type 0 where
  pub same_n : s.vertices ≡ n
  pub ascending : IsAscendingWithin 1 n s.members
  pub low : (u : ℕ) → 1 ≤ u → u ≤ v → has s.members u ≡ has side (label labels u)
  pub high : (u : ℕ) → v < u → u ≤ n → has s.members u ≡ false

pub lift_insert : (labels side : List ℕ) (n v : ℕ) (s t : VertexList) → IsLiftedTo labels side n v s → v < n → has side (label labels (v + 1)) ≡ true →
    t ≡ listed s.vertices (either (has s.members) (single (v + 1))) → IsLiftedTo labels side n (v + 1) t
lift_insert labels side n v s t h l is e =
    let f = either (has s.members) (single (v + 1)) in
    let n_is = h.same_n in
    let same : (u : ℕ) → 1 ≤ u → u ≤ n → has t.members u ≡ f u = λ u a b. ap (λ (x : VertexList). has x.members u) e ∙ (has-listed s.vertices f u a (omega arith)) in
    let other : (u : ℕ) → 1 ≤ u → u ≤ n → v + 1 ≢ u → has t.members u ≡ has s.members u =
    λ u a b ne. same u a b ∙ (ap (λ (x : Bool). has s.members u || x) (ne_eqb (v + 1) u ne) ∙ or-false (has s.members u)) in
    record {
      same_n = ap (λ (x : VertexList). x.vertices) e ∙ n_is;
      ascending = subst (λ (x : VertexList). IsAscendingWithin 1 n x.members) (sym e) (rw n_is (IsAscendingWithin-filter n 1 n f (omega arith)));
      low = λ u a b. ⊎_elim
          (λ (q : v + 1 ≡ u). same u a (omega arith) ∙ (ap (λ (x : Bool). has s.members u || x) (eq-eqb (v + 1) u q) ∙ (or-true (has s.members u) ∙ (sym is ∙ ap (λ (x : ℕ). has side (label labels x)) q))))
          (λ (ne : v + 1 ≢ u). other u a (omega arith) ne ∙ h.low u a (omega arith))
          (cases_eq (v + 1) u);
      high = λ u a b. other u (omega arith) b (λ q. omega arith) ∙ h.high u (omega arith) b;
    }

pub lift_skip : (labels side : List ℕ) (n v : ℕ) (s : VertexList) → IsLiftedTo labels side n v s → v < n → has side (label labels (v + 1)) ≡ false →
    IsLiftedTo labels side n (v + 1) s
lift_skip labels side n v s h l is = record {
  same_n = h.same_n;
  ascending = h.ascending;
  low = λ u a b. ⊎_elim
      (λ (q : v + 1 ≡ u). h.high u (omega arith) (omega arith) ∙ (sym is ∙ ap (λ (x : ℕ). has side (label labels x)) q))
      (λ (ne : v + 1 ≢ u). h.low u a (omega arith))
      (cases_eq (v + 1) u);
  high = λ u a b. h.high u (omega arith) b;
}

pub lift_end : (labels side : List ℕ) (n v : ℕ) (s : VertexList) → IsLiftedTo labels side n v s → n ≤ v → n ≡ length labels →
    s ≡ record { vertices = length labels; members = lift labels side }
lift_end labels side n v s h le long =
    let p = λ (u : ℕ). has side (label labels u) in
    let members : s.members ≡ lift labels side = rw (← long) (same_ascending 1 n s.members (filter p (range_with_len 1 n)) h.ascending (IsAscendingWithin-filter n 1 n p (omega arith))
    (λ u a b. h.low u a (omega arith) ∙ sym (has_within n 1 u p a (omega arith)))) in
    let same_n : s.vertices ≡ length labels = h.same_n ∙ long in
    ap (λ (x : ℕ). let r : VertexList = record { vertices = x; members = s.members } in r) same_n
    ∙ ap (λ (xs : List ℕ). let r : VertexList = record { vertices = length labels; members = xs } in r) members

-- ---- no more classes than vertices

length-filter-lt : (p : ℕ → Bool) (xs : List ℕ) (x : ℕ) → Contains xs x → p x ≡ false → length (filter p xs) < length xs
length-filter-lt p [] x h e = absurd (Contains-nil x h)
length-filter-lt p (y ∷ ys) x h e =
    ⊎_elim
    (λ (s : y ≡ x). let no : p y ≡ false = ap p s ∙ e in rw no (omega (arith, length-filter_le p ys)))
    (λ t.
    let rest = length-filter-lt p ys x t e in
    elim (p y) as (λ b. length (cond b (y ∷ filter p ys) (filter p ys)) < suc (length ys)) [ true ↦ omega arith | false ↦ omega arith ])
    (Contains-cons_cases y ys x h)

-- a list that has all numbers from 1 to k has at least k elements
pub le_length : (k : ℕ) (xs : List ℕ) → ((c : ℕ) → 1 ≤ c → c ≤ k → Contains xs c) → k ≤ length xs
le_length zero xs h = omega arith
le_length (suc k) xs h =
    let p = λ (x : ℕ). not (eqb x (suc k)) in
    let fewer = length-filter-lt p xs (suc k) (h (suc k) (omega arith) (omega arith)) (ap not (eq-eqb (suc k) (suc k) refl)) in
    let rest = le_length k (filter p xs) (λ c l u. Contains-filter p xs c (h c l (omega arith)) (ap not (ne_eqb c (suc k) (λ q. omega arith)))) in
    omega arith

pub classes_le : (labels : List ℕ) → IsLabels labels → classes labels ≤ length labels
classes_le labels h = le_length (classes labels) labels h.used
