-- The vertices of a class one after another, what their rows add up to, and the edges that are made of it.
use Rattle.std.proofs.Common.{◌≡◌, ℕ, zero, suc, ◌+◌, ◌-◌, ◌*◌, ◌<◌, ◌≤◌, inl, inr, ⊎_elim, Bool, true, false, ◌&&◌, ◌||◌, cond, eqb, ltb, List, [], ◌∷◌, ◌++◌, length, map, get_or, set, refl, sym, ◌∙◌, subst, ap, arith, length-append}
use Rattle.std.specs.Prelude.{◌≢◌, Result, Ok, Err, All, IfOk, IsOk, OnOk, min}
use Rattle.std.specs.Global.{Vec}
use Rattle.std.specs.List.{filter, flat_map, range_with_len}
use Rattle.std.proofs.lemmas.Bool.{cases_eq, cases_lt, eq-eqb, ne_eqb, and_left, and_right}
use Rattle.std.proofs.lemmas.Bool.Decides.{nat_tests}
use Rattle.std.proofs.lemmas.List.{append-nil, get_or-set_other, get_or-set_same, length-map, map-append}
use Rattle.std.proofs.lemmas.List.Concat.{flat_map-append}
use Rattle.std.proofs.lemmas.List.Elements.{All-weaker, filter-append}
use Rattle.std.proofs.lemmas.List.FromFn.{filter_of_map_range_with_len_more, length-range_with_len}
use Rattle.std.proofs.lemmas.List.Sums.{count_by-le-length, length-filter}
use Rattle.std.proofs.lemmas.Simd.{map-map}
use Rattle.cut_definitions.specs.declared.edge_list.Edge.{Edge}
use Rattle.cut_definitions.specs.Graph.{Graph, IsEdgeList, IsEdgeWithin, IsGraph}
use Rattle.cut_definitions.specs.Weight.{VertexSet, between}
use Rattle.cut_definitions.specs.Scan.{single}
use Rattle.cut_definitions.specs.Contraction.{label, classes, class, relabel}
use Rattle.cut_definitions.proofs.Sums.{sum_by-plus, sum_by-none, sum_by-same, sum_by-same_on}
use Rattle.cut_definitions.proofs.WeightLaws.{join_of, join_term}
use Rattle.cut_definitions.proofs.Ranges.{range_push}
use Rattle.rayon.specs.Shown.{run-append}
use Rattle.weighted_graph.specs.ContractionLaws.{IsLabelled}
use Rattle.weighted_graph.specs.Rows.{row_of}
use Rattle.weighted_graph.specs.declared.graph.Arc.{Arc}
use Rattle.weighted_graph.proofs.Contraction.{law_of_contracted_graph}
use Rattle.weighted_graph.proofs.RowLaws.{law_of_rows}
use Rattle.round_contract.specs.Rows.{IsFirst, IsNone, IsNext, AreFirst, AreNext, toward, members_before, class_row, edges_by, found_edges, run_rows}

-- ---- the first vertex of each class, and the next one of each vertex

next_earlier : (labels : List ℕ) (c v x : ℕ) → label labels v ≢ c → IsNext labels c (v + 1) x → IsNext labels c v x
next_earlier labels c v x ne = ⊎_elim
    (λ (f : IsFirst labels c (v + 1) x). inl (record {
      late = omega (arith, f.late);
      to_n = f.to_n;
      is_in = f.is_in;
      before = λ u l m. at u l (λ k. f.before u k m);
    }))
    (λ (n : IsNone labels c (v + 1) x). inr (record { zero = n.zero; none = λ u l m. at u l (λ k. n.none u k m) }))
  where
    at : (u : ℕ) → v ≤ u → (v + 1 ≤ u → label labels u ≢ c) → label labels u ≢ c
    at u l rest = ⊎_elim (λ (e : u ≡ v). λ k. ne (ap (label labels) (sym e) ∙ k)) (λ (d : u ≢ v). rest (omega (arith, l, d))) (cases_eq u v)

next_here : (labels : List ℕ) (c v : ℕ) → v ≤ length labels → label labels v ≡ c → IsNext labels c v v
next_here labels c v within is = inl (record { late = omega arith; to_n = within; is_in = is; before = λ u l m. absurd (omega (arith, l, m)) })

pub first_linked : (labels first : List ℕ) (v : ℕ) → v ≤ length labels → length first ≡ classes labels + 1 → AreFirst labels (v + 1) first → AreFirst labels v (set first (label labels v) v)
first_linked labels first v within long h c k = ⊎_elim
    (λ (e : c ≡ label labels v).
    let same : get_or (set first (label labels v) v) c 0 ≡ v = ap (λ (j : ℕ). get_or (set first j v) c 0) (sym e) ∙ get_or-set_same first c v 0 (omega (arith, long, k)) in
    subst (IsNext labels c v) (sym same) (next_here labels c v within (sym e)))
    (λ (d : c ≢ label labels v).
    subst (IsNext labels c v) (sym (get_or-set_other first (label labels v) c v 0 d)) (next_earlier labels c v (get_or first c 0) (λ e. d (sym e)) (h c k)))
    (cases_eq c (label labels v))

pub next_linked : (labels first next : List ℕ) (v : ℕ) → v ≤ length labels → label labels v ≤ classes labels → length next ≡ length labels + 1 → AreFirst labels (v + 1) first → AreNext labels (v + 1) next →
    AreNext labels v (set next v (get_or first (label labels v) 0))
next_linked labels first next v within fits long h r u l m = ⊎_elim
    (λ (e : u ≡ v).
    let x = get_or first (label labels v) 0 in
    let same : get_or (set next v x) u 0 ≡ x = ap (λ (j : ℕ). get_or (set next v x) j 0) e ∙ get_or-set_same next v x 0 (omega (arith, long, within)) in
    subst (IsNext labels (label labels u) (u + 1)) (sym same) (subst (λ (j : ℕ). IsNext labels (label labels j) (j + 1) x) (sym e) (h (label labels v) fits)))
    (λ (d : u ≢ v).
    subst (IsNext labels (label labels u) (u + 1)) (sym (get_or-set_other next v u (get_or first (label labels v) 0) 0 d)) (r u (omega (arith, l, d)) m))
    (cases_eq u v)

-- ---- the weight from the first vertices of a class to another

join_more : (a b a' b' c d : Bool) (w : ℕ) → (a && a') ≡ false → (b && b') ≡ false → (a && c) ≡ false → (a' && c) ≡ false → (b && d) ≡ false → (b' && d) ≡ false →
    join_of (a || a') (b || b') c d w ≡ join_of a b c d w + join_of a' b' c d w
join_more a b a' b' c d w h1 h2 h3 h4 h5 h6 = grind arith

grown_in : (l m k s : Bool) → l ≡ true → m ≡ (k || s) → (l && m) ≡ ((l && k) || s)
grown_in l m k s e f = grind arith

grown_out : (l m k s : Bool) → l ≡ false → s ≡ false → (l && m) ≡ ((l && k) || s)
grown_out l m k s e f = grind arith

one_later : (from v x : ℕ) → from ≤ v → (from ≤ x → x < v → ⊥) → ltb x (v + 1) ≡ (ltb x from || eqb v x)
one_later from v x le none = ⊎_elim
    (λ (l : x < from). before from v x le l)
    (λ (g : from ≤ x). ⊎_elim (λ (l : x < v). absurd (none g l)) (λ (m : v ≤ x). after from v x le m) (cases_lt x v))
    (cases_lt x from)
  where
    before : (from v x : ℕ) → from ≤ v → x < from → ltb x (v + 1) ≡ (ltb x from || eqb v x)
    before from v x le l = grind (arith, nat_tests)

    after : (from v x : ℕ) → from ≤ v → v ≤ x → ltb x (v + 1) ≡ (ltb x from || eqb v x)
    after from v x le m = grind (arith, nat_tests)

apart_members : (l : Bool) (from v x : ℕ) → from ≤ v → ((l && ltb x from) && eqb v x) ≡ false
apart_members l from v x le = grind (arith, nat_tests)

apart_class : (y c b : ℕ) (k : Bool) → c < b → ((eqb y c && k) && eqb y b) ≡ false
apart_class y c b k l = grind (arith, nat_tests)

module _ (g : Graph) (labels : List ℕ) (c b from v : ℕ) (l : c < b) (f : IsFirst labels c from v) where
  abbrev M : VertexSet
  M = members_before labels c from

  abbrev T : VertexSet
  T = class labels b

  grown : (x : ℕ) → members_before labels c (v + 1) x ≡ (M x || single v x)
  grown x = ⊎_elim
      (λ (e : label labels x ≡ c). grown_in (eqb (label labels x) c) (ltb x (v + 1)) (ltb x from) (eqb v x) (eq-eqb (label labels x) c e) (one_later from v x f.late (λ k m. f.before x k m e)))
      (λ (d : label labels x ≢ c). grown_out (eqb (label labels x) c) (ltb x (v + 1)) (ltb x from) (eqb v x) (ne_eqb (label labels x) c d) (ne_eqb v x (λ e. d (ap (label labels) (sym e) ∙ f.is_in))))
      (cases_eq (label labels x) c)

  single_apart : (x : ℕ) → (single v x && T x) ≡ false
  single_apart x = ⊎_elim
      (λ (e : v ≡ x). and_right (eqb v x) (eqb (label labels x) b) (ne_eqb (label labels x) b (λ k. omega (arith, ap (label labels) e, f.is_in, k, l))))
      (λ (d : v ≢ x). and_left (eqb v x) (eqb (label labels x) b) (ne_eqb v x d))
      (cases_eq v x)

  each_more : (e : Edge) → join_term (members_before labels c (v + 1)) T e ≡ join_term M T e + join_term (single v) T e
  each_more e =
      ap (λ p. join_of p (members_before labels c (v + 1) e.v) (T e.u) (T e.v) e.w) (grown e.u)
      ∙ (ap (λ p. join_of (M e.u || single v e.u) p (T e.u) (T e.v) e.w) (grown e.v)
      ∙ join_more (M e.u) (M e.v) (single v e.u) (single v e.v) (T e.u) (T e.v) e.w
      (apart_members (eqb (label labels e.u) c) from v e.u f.late) (apart_members (eqb (label labels e.v) c) from v e.v f.late)
      (apart_class (label labels e.u) c b (ltb e.u from) l) (single_apart e.u)
      (apart_class (label labels e.v) c b (ltb e.v from) l) (single_apart e.v))

  pub members_grow : between g (members_before labels c (v + 1)) (class labels b) ≡ between g (members_before labels c from) (class labels b) + between g (single v) (class labels b)
  members_grow = sum_by-same (join_term (members_before labels c (v + 1)) T) (λ e. join_term M T e + join_term (single v) T e) each_more g.edges ∙ sum_by-plus (join_term M T) (join_term (single v) T) g.edges

-- the arcs of a vertex to a class weigh what lies between them
pub toward_is : (g : Graph) → IsGraph g → (labels : List ℕ) (b v : ℕ) → toward labels b (row_of g v) ≡ between g (single v) (class labels b)
toward_is g ok labels b v = (law_of_rows g ok v).weight_to (class labels b)

none_joined : (l m : Bool) (u v : ℕ) (c d : Bool) (w : ℕ) → 1 ≤ u → 1 ≤ v → join_of (l && ltb u 1) (m && ltb v 1) c d w ≡ 0
none_joined l m u v c d w a b = grind (arith, nat_tests)

pub members_none : (g : Graph) → IsGraph g → (labels : List ℕ) (c b : ℕ) → between g (members_before labels c 1) (class labels b) ≡ 0
members_none g ok labels c b =
    sum_by-same_on (join_term (members_before labels c 1) (class labels b)) (λ (e : Edge). 0) g.edges
    (All-weaker (IsEdgeWithin g.vertices) (λ e. join_term (members_before labels c 1) (class labels b) e ≡ 0)
    (λ e h. none_joined (eqb (label labels e.u) c) (eqb (label labels e.v) c) e.u e.v (class labels b e.u) (class labels b e.v) e.w h.0 (omega (arith, h.0, h.1))) g.edges ok.in_range)
    ∙ sum_by-none (λ (e : Edge). 0) (λ e. refl) g.edges

-- if no vertex of a class is left, all of them are before
all_before : (labels : List ℕ) (c from v : ℕ) → IsNone labels c from v → (x : ℕ) → x ≤ length labels → members_before labels c from x ≡ class labels c x
all_before labels c from v h x within = ⊎_elim
    (λ (l : x < from). early (eqb (label labels x) c) x from l)
    (λ (g : from ≤ x). and_left (eqb (label labels x) c) (ltb x from) (ne_eqb (label labels x) c (h.none x g within)) ∙ sym (ne_eqb (label labels x) c (h.none x g within)))
    (cases_lt x from)
  where
    early : (l : Bool) (x from : ℕ) → x < from → (l && ltb x from) ≡ l
    early l x from h = grind (arith, nat_tests)

pub members_all : (g : Graph) → IsGraph g → (labels : List ℕ) (c b from v : ℕ) → length labels ≡ g.vertices → IsNone labels c from v →
    between g (members_before labels c from) (class labels b) ≡ between g (class labels c) (class labels b)
members_all g ok labels c b from v long h =
    let M = members_before labels c from in
    let T = class labels b in
    sum_by-same_on (join_term M T) (join_term (class labels c) T) g.edges
    (All-weaker (IsEdgeWithin g.vertices) (λ e. join_term M T e ≡ join_term (class labels c) T e)
    (λ e k.
    ap (λ p. join_of p (M e.v) (T e.u) (T e.v) e.w) (all_before labels c from v h e.u (omega (arith, k.1, k.2, long)))
    ∙ ap (λ p. join_of (class labels c e.u) p (T e.u) (T e.v) e.w) (all_before labels c from v h e.v (omega (arith, k.2, long)))) g.edges ok.in_range)

pub first_of : (labels : List ℕ) (c from v : ℕ) → IsNext labels c from v → v ≢ 0 → IsFirst labels c from v
first_of labels c from v h some = ⊎_elim (λ (f : IsFirst labels c from v). f) (λ (n : IsNone labels c from v). absurd (some n.zero)) h

pub none_of : (labels : List ℕ) (c from v : ℕ) → IsNext labels c from v → 1 ≤ from → v ≡ 0 → IsNone labels c from v
none_of labels c from v h one e = ⊎_elim (λ (f : IsFirst labels c from v). absurd (omega (arith, f.late, one, e))) (λ (n : IsNone labels c from v). n) h

-- the row of one more vertex
pub more_weight : (g : Graph) → IsGraph g → (labels : List ℕ) (c b from v s : ℕ) (row : List Arc) → c < b → IsFirst labels c from v → row ≡ row_of g v → s ≡ between g (members_before labels c from) (class labels b) →
    s + toward labels b row ≡ between g (members_before labels c (v + 1)) (class labels b)
more_weight g ok labels c b from v s row l f is e =
    omega (arith, e, ap (toward labels b) is, toward_is g ok labels b v, members_grow g labels c b from v l f)

-- ---- the edges

abbrev keeps : Edge → Bool
keeps e = ltb 0 e.w

abbrev pub edge_to : (ℕ → ℕ) → ℕ → ℕ → Edge
edge_to f c b = record { u = c; v = b; w = f b }

same_map : (f h : ℕ → ℕ) (c m low : ℕ) → ((b : ℕ) → low ≤ b → b < low + m → f b ≡ h b) → map (edge_to f c) (range_with_len low m) ≡ map (edge_to h c) (range_with_len low m)
same_map f h c zero low same = refl
same_map f h c (suc m) low same =
    ap (λ (w : ℕ). (let e : Edge = record { u = c; v = low; w = w } in e) ∷ map (edge_to f c) (range_with_len (low + 1) m)) (same low (omega arith) (omega arith))
    ∙ ap (λ l. edge_to h c low ∷ l) (same_map f h c m (low + 1) (λ b l u. same b (omega (arith, l)) (omega (arith, u))))

pub same_row : (g : Graph) (labels sums : List ℕ) (c : ℕ) → ((b : ℕ) → c < b → b ≤ classes labels → get_or sums b 0 ≡ between g (class labels c) (class labels b)) →
    edges_by sums c (classes labels - c) ≡ class_row g labels c
same_row g labels sums c same = ap (filter keeps)
    (same_map (λ b. get_or sums b 0) (λ b. between g (class labels c) (class labels b)) c (classes labels - c) (c + 1) (λ b l u. same b (omega (arith, l)) (omega (arith, u, l))))

-- a run of one class more
pub rows_more : (g : Graph) (labels : List ℕ) (from m : ℕ) → run_rows g labels from (m + 1) ≡ run_rows g labels from m ++ class_row g labels (from + m + 1)
rows_more g labels from m =
    let up : m + 1 ≡ suc m = omega arith in
    let down : from + 1 + m ≡ from + m + 1 = omega arith in
    ap (run_rows g labels from) up
    ∙ (ap (flat_map (class_row g labels)) (range_push (from + 1) m)
    ∙ (flat_map-append (class_row g labels) (range_with_len (from + 1) m) ((from + 1 + m) ∷ [])
    ∙ ap (λ l. run_rows g labels from m ++ l) (append-nil (class_row g labels (from + 1 + m)) ∙ ap (class_row g labels) down)))

-- two runs of classes, one after the other
rows_run : (g : Graph) (labels : List ℕ) (from a b : ℕ) → run_rows g labels from a ++ run_rows g labels (from + a) b ≡ run_rows g labels from (a + b)
rows_run g labels from a b =
    let next : from + a + 1 ≡ from + 1 + a = omega arith in
    ap (λ k. run_rows g labels from a ++ flat_map (class_row g labels) (range_with_len k b)) next
    ∙ (sym (flat_map-append (class_row g labels) (range_with_len (from + 1) a) (range_with_len (from + 1 + a) b))
    ∙ ap (flat_map (class_row g labels)) (run-append (from + 1) a b))

-- one more class, to which there is a weight or not
pub edges_with : (sums : List ℕ) (c b : ℕ) → c < b → 1 ≤ get_or sums b 0 → edges_by sums c (b + 1 - 1 - c) ≡ edges_by sums c (b - 1 - c) ++ edge_to (λ k. get_or sums k 0) c b ∷ []
edges_with sums c b l some =
    let f : ℕ → ℕ = λ k. get_or sums k 0 in
    let up : b + 1 - 1 - c ≡ (b - 1 - c) + 1 = omega (arith, l) in
    ap (edges_by sums c) up
    ∙ (filter_of_map_range_with_len_more keeps (edge_to f c) (c + 1) (b - 1 - c) b (omega (arith, l))
    ∙ ap (λ t. filter keeps (map (edge_to f c) (range_with_len (c + 1) (b - 1 - c))) ++ cond t (edge_to f c b ∷ []) []) (positive (get_or sums b 0) some))
  where
    positive : (w : ℕ) → 1 ≤ w → ltb 0 w ≡ true
    positive w h = grind (arith, nat_tests)

pub edges_without : (sums : List ℕ) (c b : ℕ) → c < b → get_or sums b 0 ≡ 0 → edges_by sums c (b + 1 - 1 - c) ≡ edges_by sums c (b - 1 - c)
edges_without sums c b l none =
    let f : ℕ → ℕ = λ k. get_or sums k 0 in
    let up : b + 1 - 1 - c ≡ (b - 1 - c) + 1 = omega (arith, l) in
    ap (edges_by sums c) up
    ∙ (filter_of_map_range_with_len_more keeps (edge_to f c) (c + 1) (b - 1 - c) b (omega (arith, l))
    ∙ (ap (λ w. filter keeps (map (edge_to f c) (range_with_len (c + 1) (b - 1 - c))) ++ cond (ltb 0 w) (edge_to f c b ∷ []) []) none
    ∙ append-nil (filter keeps (map (edge_to f c) (range_with_len (c + 1) (b - 1 - c))))))

-- the pairs with one first class
abbrev pairs_from : ℕ → ℕ → List (ℕ × ℕ)
pairs_from k i = map (λ j. let p : ℕ × ℕ = (i, j) in p) (range_with_len (i + 1) (k - i))

spread : (g : Graph) (labels xs : List ℕ) →
    flat_map (class_row g labels) xs ≡ filter keeps (map (λ (p : ℕ × ℕ). edge_to (λ b. between g (class labels p.0) (class labels b)) p.0 p.1) (flat_map (pairs_from (classes labels)) xs))
spread g labels [] = refl
spread g labels (x ∷ xs) =
    let k = classes labels in
    let make : ℕ × ℕ → Edge = λ p. edge_to (λ b. between g (class labels p.0) (class labels b)) p.0 p.1 in
    let first : class_row g labels x ≡ filter keeps (map make (pairs_from k x)) = ap (filter keeps) (sym (map-map make (λ j. let p : ℕ × ℕ = (x, j) in p) (range_with_len (x + 1) (k - x)))) in
    ap (λ l. l ++ flat_map (class_row g labels) xs) first
    ∙ (ap (λ l. filter keeps (map make (pairs_from k x)) ++ l) (spread g labels xs)
    ∙ (sym (filter-append keeps (map make (pairs_from k x)) (map make (flat_map (pairs_from k) xs)))
    ∙ ap (filter keeps) (sym (map-append make (pairs_from k x) (flat_map (pairs_from k) xs)))))

pub rows_are : (g : Graph) (labels : List ℕ) → run_rows g labels 0 (classes labels) ≡ (relabel g labels).edges
unfolding relabel
rows_are g labels = spread g labels (range_with_len 1 (classes labels))

-- ---- the runs of the workers

-- run i, if the runs begin and end at these numbers of classes
abbrev run_at : Graph → List ℕ → (ℕ → ℕ) → ℕ → List Edge
run_at g labels ends i = run_rows g labels (ends i) (ends (i + 1) - ends i)

-- the edges of runs that follow one another are those of all their classes
runs_are : {E : Type 0} (g : Graph) (labels : List ℕ) (ends : ℕ → ℕ) → ((i n : ℕ) → ends i ≤ ends (i + n)) → (from : ℕ) (runs : List (Result (Vec Edge) E)) →
    ((i : ℕ) (d : Result (Vec Edge) E) → i < length runs → found_edges (get_or runs i d) ≡ run_at g labels ends (from + i)) →
    flat_map found_edges runs ≡ run_rows g labels (ends from) (ends (from + length runs) - ends from)
runs_are g labels ends up from [] each =
    let same : from + 0 ≡ from = omega arith in
    let none : ends (from + 0) - ends from ≡ 0 = omega (arith, ap ends same) in
    sym (ap (run_rows g labels (ends from)) none)
runs_are g labels ends up from (r ∷ runs) each =
    let n = length runs in
    let a = ends (from + 1) - ends from in
    let b = ends (from + 1 + n) - ends (from + 1) in
    let here : from + 0 ≡ from = omega arith in
    let last : from + 1 + n ≡ from + suc n = omega arith in
    let next : ends (from + 1) ≡ ends from + a = omega (arith, up from 1) in
    let all : a + b ≡ ends (from + suc n) - ends from = omega (arith, up from 1, up (from + 1) n, ap ends last) in
    ap (λ l. l ++ flat_map found_edges runs) (each 0 r (omega arith) ∙ ap (run_at g labels ends) here)
    ∙ (ap (λ l. run_at g labels ends from ++ l) (runs_are g labels ends up (from + 1) runs (λ i d l. each (suc i) d (omega (arith, l)) ∙ ap (run_at g labels ends) (let e : from + suc i ≡ from + 1 + i = omega arith in e)))
    ∙ (ap (λ k. run_at g labels ends from ++ run_rows g labels k b) next
    ∙ (rows_run g labels (ends from) a b
    ∙ ap (run_rows g labels (ends from)) all)))

-- what was found in a run that did not fail
found_is : {E : Type 0} (run : Result (Vec Edge) E) (xs : List Edge) → IsOk run → IfOk run (λ edges. edges.items ≡ xs) → found_edges run ≡ xs
found_is (Ok edges) xs ok h = h
found_is (Err e) xs ok h = absurd (grind (arith, ok))

-- runs of equally many classes, the last ones cut off at the number of classes, and enough of them to reach it
pub runs_of_size : {E : Type 0} (g : Graph) (labels : List ℕ) (size count : ℕ) (runs : List (Result (Vec Edge) E)) → count ≡ classes labels → count ≤ length runs * size → All (λ run. IsOk run) runs →
    ((i : ℕ) (d : Result (Vec Edge) E) → i < length runs → IfOk (get_or runs i d) (λ edges. edges.items ≡ run_rows g labels (min (i * size) count) (min ((i + 1) * size) count - min (i * size) count))) →
    flat_map found_edges runs ≡ (relabel g labels).edges
runs_of_size g labels size count runs is enough whole each =
    let ends : ℕ → ℕ = λ i. min (i * size) count in
    let all : ends (0 + length runs) - ends 0 ≡ classes labels = omega (arith, low, enough, is, ap ends (let e : 0 + length runs ≡ length runs = omega arith in e)) in
    runs_are g labels ends grow 0 runs (λ i d l. found_is (get_or runs i d) (run_at g labels ends i) (whole i d l) (each i d l) ∙ ap (run_at g labels ends) (let e : i ≡ 0 + i = omega arith in e))
    ∙ (ap (λ k. run_rows g labels k (ends (0 + length runs) - ends 0)) low
    ∙ (ap (run_rows g labels 0) all
    ∙ rows_are g labels))
  where
    grow : (i n : ℕ) → min (i * size) count ≤ min ((i + n) * size) count
    grow i n = grind arith

    low : min (0 * size) count ≡ 0
    low = omega arith

-- what follows of a value from two facts of it
pub if_both : {T E : Type 0} (r : Result T E) (P R : T → Type 0) (Q : Type 0) → ((x : T) → P x → Q → R x) → IfOk r P → OnOk r Q → IfOk r R
if_both (Ok x) P R Q then p q = then x p q
if_both (Err e) P R Q then p q = p

-- ---- how many edges there are

row_short : (g : Graph) (labels : List ℕ) (c : ℕ) → length (class_row g labels c) ≤ classes labels
row_short g labels c =
    let all = map (edge_to (λ b. between g (class labels c) (class labels b)) c) (range_with_len (c + 1) (classes labels - c)) in
    omega (
      arith,
      length-filter keeps all,
      count_by-le-length keeps all,
      length-map (range_with_len (c + 1) (classes labels - c)) (edge_to (λ b. between g (class labels c) (class labels b)) c),
      length-range_with_len (c + 1) (classes labels - c),
    )

rows_short : (g : Graph) (labels xs : List ℕ) → length (flat_map (class_row g labels) xs) ≤ length xs * classes labels
rows_short g labels [] = omega arith
rows_short g labels (x ∷ xs) = omega (arith, length-append (class_row g labels x) (flat_map (class_row g labels) xs), row_short g labels x, rows_short g labels xs)

square : (k : ℕ) → k ≤ 4096 → k * k ≤ 16777216
square k h = grind arith

pub few_rows : (g : Graph) → IsEdgeList g → (labels : List ℕ) → IsLabelled g labels → classes labels ≤ 4096 → IsEdgeList (relabel g labels)
unfolding relabel
few_rows g is labels h few = record {
  is_graph = law_of_contracted_graph g is.is_graph labels h;
  few_vertices = omega (arith, few);
  few_edges = omega (
    arith,
    ap length (rows_are g labels),
    rows_short g labels (range_with_len 1 (classes labels)),
    ap (λ (m : ℕ). m * classes labels) (length-range_with_len 1 (classes labels)),
    square (classes labels) few,
  );
}

pub relabel_made : (g : Graph) (labels : List ℕ) (k : ℕ) (edges : List Edge) → k ≡ classes labels → edges ≡ (relabel g labels).edges → (let r : Graph = record { vertices = k; edges = edges } in r) ≡ relabel g labels
unfolding relabel
relabel_made g labels k edges e f =
    ap (λ (x : ℕ). let r : Graph = record { vertices = x; edges = edges } in r) e
    ∙ ap (λ (es : List Edge). let r : Graph = record { vertices = classes labels; edges = es } in r) f
