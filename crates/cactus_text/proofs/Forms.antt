-- A well-formed flat cactus keeps the rules of the text.
use Rattle.std.proofs.Common.{◌≡◌, ◌≢◌, inl, inr, ◌≤◌, ◌<◌, ◌+◌, ◌-◌, ◌^◌, ◌&&◌, ◌||◌, ◌==◌, ◌++◌, ◌∷◌, [], ℕ, zero, suc, Bool, true, false, List, length, ap, subst, sym, ◌∙◌, refl, arith, append_assoc, length-append}
use Rattle.std.specs.Prelude.{nat_le, nat_lt, not, cond, slice_index, slice_index_or}
use Rattle.std.specs.List.{All, AllPairs, filter, flat_map, fold, list_all, list_any, range_with_len, sum_by}
use Rattle.std.proofs.lemmas.Bool.{cases_Bool, eq-eqb, le-leb, lt-ltb, false_from_ne_true, eqb-true}
use Rattle.std.proofs.lemmas.List.FromFn.{length-range_with_len}
use Rattle.std.proofs.lemmas.List.{length-map}
use Rattle.std.proofs.lemmas.List.Sums.{sum_by-cons}
use Rattle.std.proofs.lemmas.List.Elements.{All-head, All-tail}
use Rattle.cut_definitions.specs.Cuts.{has, IsAscendingWithin}
use Rattle.cut_definitions.proofs.ListLaws.{All-back}
use Rattle.cut_definitions.proofs.Ascending.{member_within, all_from, contains_has}
use Rattle.flat_cactus.specs.Flat.{Flat}
use Rattle.flat_cactus.specs.FlatCuts.{IsWellFormed, IsBridgeBelow, IsCycleBelow, IsClosed, all_edges, cycle_edges, edges_along, node_at}
use Rattle.cactus_text.specs.Reading.{ascends, distinct, is_cycle, is_node, is_placed, is_complete, is_joined, is_tree, relabelled}
use Rattle.flat_cactus.specs.Flattened.{flat_of}
use Rattle.flat_cactus.proofs.FlatShapes.{flat_form}
use Rattle.cactus_text.specs.TextLaws.{LawOfText, LawOfCactusText}
use Rattle.cactus_text.specs.Scanned.{AreSmall}
use Rattle.cactus_text.proofs.Law.{AreNodes, AreBridges, AreCycles, IsReadable, counts_for, printed_is_read}
use Rattle.cactus_text.proofs.Labelling.{at_changed, at_own, at_same, all_equal}

ascends_true : (low high : ℕ) (vs : List ℕ) → IsAscendingWithin low high vs → ascends low high vs ≡ true
ascends_true low high [] h = refl
ascends_true low high (v ∷ vs) h =
    ap (λ (b : Bool). b && nat_le v high && ascends (v + 1) high vs) (le-leb low v h.0)
    ∙ ap (λ (b : Bool). b && ascends (v + 1) high vs) (le-leb v high h.1)
    ∙ ascends_true (v + 1) high vs h.2

ascends_are_small : (low high : ℕ) (vs : List ℕ) → IsAscendingWithin low high vs → high < 2 ^ 64 → AreSmall vs
ascends_are_small low high [] h g = tt
ascends_are_small low high (v ∷ vs) h g = (omega (arith, h.1, g), ascends_are_small (v + 1) high vs h.2 g)

-- one entry that passes leaves none before it if one passes in all
filter_some : (p : List ℕ → Bool) (front : List (List ℕ)) (x : List ℕ) (more : List (List ℕ)) → p x ≡ true → 1 ≤ length (filter p (front ++ x ∷ more))
filter_some p [] x more h = let e = ap (λ (b : Bool). length (cond b (x ∷ filter p more) (filter p more))) h in omega (arith, e)
filter_some p (y ∷ front) x more h =
    let rest = filter p (front ++ x ∷ more) in
    let some = filter_some p front x more h in
    elim (cases_Bool (p y)) [
      | inl e ↦ let k = ap (λ (b : Bool). length (cond b (y ∷ rest) rest)) e in omega (arith, k, some)
      | inr e ↦ let k = ap (λ (b : Bool). length (cond b (y ∷ rest) rest)) e in omega (arith, k, some)
    ]

none_before : (p : List ℕ → Bool) (front : List (List ℕ)) (x : List ℕ) (more : List (List ℕ)) → p x ≡ true → length (filter p (front ++ x ∷ more)) ≤ 1 → list_any p front ≡ false
none_before p [] x more h one = refl
none_before p (y ∷ front) x more h one =
    let rest = filter p (front ++ x ∷ more) in
    let some = filter_some p front x more h in
    elim (cases_Bool (p y)) [
      | inl e ↦ let k = ap (λ (b : Bool). length (cond b (y ∷ rest) rest)) e in absurd (omega (arith, k, some, one))
      | inr e ↦
          let k = ap (λ (b : Bool). length (cond b (y ∷ rest) rest)) e in
          ap (λ (b : Bool). b || list_any p front) e ∙ none_before p front x more h (omega (arith, k, one))
    ]

filter_any : (p : List ℕ → Bool) (xs : List (List ℕ)) → 1 ≤ length (filter p xs) → list_any p xs ≡ true
filter_any p [] h = absurd (omega (arith, h))
filter_any p (x ∷ xs) h = elim (cases_Bool (p x)) [
  | inl e ↦ ap (λ (b : Bool). b || list_any p xs) e
  | inr e ↦
      let k = ap (λ (b : Bool). length (cond b (x ∷ filter p xs) (filter p xs))) e in
      ap (λ (b : Bool). b || list_any p xs) e ∙ filter_any p xs (omega (arith, k, h))
]

abbrev with_nodes : ℕ → List (List ℕ) → Flat
with_nodes n nodes = record { vertices = n; nodes = nodes; bridges = []; cycles = [] }

-- what is asked of the nodes
record FormsNodes (n : ℕ) (nodes : List (List ℕ)) : Type 0 where
  pub ascending : All (IsAscendingWithin 1 n) nodes
  pub once : (v : ℕ) → 1 ≤ v → v ≤ n → length (filter (λ l. has l v) nodes) ≡ 1
  pub first : has (slice_index_or nodes 0 []) 1 ≡ true
  pub small : length nodes < 2 ^ 64
  pub bounded : n < 2 ^ 64

node_here : (n : ℕ) (front : List (List ℕ)) (vs : List ℕ) (more : List (List ℕ)) → IsAscendingWithin 1 n vs
    → ((v : ℕ) → 1 ≤ v → v ≤ n → length (filter (λ l. has l v) (front ++ vs ∷ more)) ≡ 1)
    → (nat_lt 0 (length front) || has vs 1) ≡ true → is_node (with_nodes n front) (length front) vs ≡ true
node_here n front vs more up once first =
    let i = length front in
    let fresh : (v : ℕ) → has vs v ≡ true → not (is_placed (with_nodes n front) v) ≡ true = λ v g.
    let inside = member_within 1 n v vs up g in
    let one = once v inside.0 inside.1 in
    ap not (none_before (λ l. has l v) front vs more g (omega (arith, one))) in
    let last = nat_lt 0 i || has vs 1 in
    ap (λ (b : Bool). b && ascends 1 n vs && list_all (λ v. not (is_placed (with_nodes n front) v)) vs && last) (eq-eqb i i refl)
    ∙ ap (λ (b : Bool). b && list_all (λ v. not (is_placed (with_nodes n front) v)) vs && last) (ascends_true 1 n vs up)
    ∙ ap (λ (b : Bool). b && last) (all_from (λ v. not (is_placed (with_nodes n front) v)) vs fresh)
    ∙ first

first_or_later : (front more : List (List ℕ)) (vs : List ℕ) → has (slice_index_or (front ++ vs ∷ more) 0 []) 1 ≡ true → (nat_lt 0 (length front) || has vs 1) ≡ true
first_or_later [] more vs h = h
first_or_later (x ∷ front) more vs h = ap (λ (b : Bool). b || has vs 1) (lt-ltb 0 (suc (length front)) (omega arith))

are_nodes : (n : ℕ) (nodes front rest : List (List ℕ)) → FormsNodes n nodes → front ++ rest ≡ nodes → AreNodes (with_nodes n front) rest
are_nodes n nodes front [] f e = tt
are_nodes n nodes front (vs ∷ rest) f e =
    let up : IsAscendingWithin 1 n vs =
    All-head (IsAscendingWithin 1 n) vs rest (All-back (IsAscendingWithin 1 n) front (vs ∷ rest) (subst (All (IsAscendingWithin 1 n)) (sym e) f.ascending)) in
    let once : (v : ℕ) → 1 ≤ v → v ≤ n → length (filter (λ l. has l v) (front ++ vs ∷ rest)) ≡ 1 = λ v a b.
    ap (λ ls. length (filter (λ l. has l v) ls)) e ∙ f.once v a b in
    let first = first_or_later front rest vs (ap (λ ls. has (slice_index_or ls 0 []) 1) e ∙ f.first) in
    let count = ap (length {A = List ℕ}) (sym e) ∙ length-append front (vs ∷ rest) in
    let next : (front ++ vs ∷ []) ++ rest ≡ nodes = append_assoc front (vs ∷ []) rest ∙ e in
    (node_here n front vs rest up once first, ascends_are_small 1 n vs up f.bounded, omega (arith, count, f.small), are_nodes n nodes (front ++ vs ∷ []) rest f next)

are_bridges : (count : ℕ) (bs : List (ℕ × ℕ)) → All (IsBridgeBelow count) bs → count < 2 ^ 64 → AreBridges count bs
are_bridges count [] h small = tt
are_bridges count (b ∷ bs) h small =
    let here = All-head (IsBridgeBelow count) b bs h in
    (here.0, here.1, omega (arith, here.1, small), are_bridges count bs (All-tail (IsBridgeBelow count) b bs h) small)

all_true : (p : ℕ → Bool) (xs : List ℕ) → All (λ x. p x ≡ true) xs → list_all p xs ≡ true
all_true p [] h = refl
all_true p (x ∷ xs) h =
    ap (λ (b : Bool). b && list_all p xs) (All-head (λ y. p y ≡ true) x xs h) ∙ all_true p xs (All-tail (λ y. p y ≡ true) x xs h)

differs_from : (x : ℕ) (xs : List ℕ) → All (λ y. x ≢ y) xs → has xs x ≡ false
differs_from x [] h = refl
differs_from x (y ∷ ys) h =
    ap (λ (b : Bool). b || has ys x) (false_from_ne_true (y == x) (λ e. All-head (λ z. x ≢ z) y ys h (sym (eqb-true y x e))))
    ∙ differs_from x ys (All-tail (λ z. x ≢ z) y ys h)

pairs_first : (x : ℕ) (xs : List ℕ) → AllPairs (λ i j. i ≢ j) (x ∷ xs) → All (λ y. x ≢ y) xs
pairs_first x xs h = λ k d g. h 0 (suc k) d (omega arith) (omega (arith, g))

pairs_later : (x : ℕ) (xs : List ℕ) → AllPairs (λ i j. i ≢ j) (x ∷ xs) → AllPairs (λ i j. i ≢ j) xs
pairs_later x xs h = λ i j d g k. h (suc i) (suc j) d (omega (arith, g)) (omega (arith, k))

distinct_true : (xs : List ℕ) → AllPairs (λ i j. i ≢ j) xs → distinct xs ≡ true
distinct_true [] h = refl
distinct_true (x ∷ xs) h = ap (λ (b : Bool). not b && distinct xs) (differs_from x xs (pairs_first x xs h)) ∙ distinct_true xs (pairs_later x xs h)

cycle_true : (count : ℕ) (c : List ℕ) → IsCycleBelow count c → is_cycle count c ≡ true
cycle_true count c h =
    let least = slice_index c 0 in
    let within = list_all (λ i. nat_le least i && nat_lt i count) c in
    let each : All (λ i. (nat_le least i && nat_lt i count) ≡ true) c = λ k d g.
    let x = slice_index_or c k d in
    ap (λ (b : Bool). b && nat_lt x count) (le-leb least x (h.first_least k d g)) ∙ lt-ltb x count (h.below k d g) in
    ap (λ (b : Bool). b && within && distinct c) (le-leb 3 (length c) h.long)
    ∙ ap (λ (b : Bool). b && distinct c) (all_true (λ i. nat_le least i && nat_lt i count) c each)
    ∙ distinct_true c h.different

all_are_small : (count : ℕ) (xs : List ℕ) → All (λ i. i < count) xs → count < 2 ^ 64 → AreSmall xs
all_are_small count [] h g = tt
all_are_small count (x ∷ xs) h g =
    let here = All-head (λ i. i < count) x xs h in
    (omega (arith, here, g), all_are_small count xs (All-tail (λ i. i < count) x xs h) g)

are_cycles : (count : ℕ) (cs : List (List ℕ)) → All (IsCycleBelow count) cs → count < 2 ^ 64 → AreCycles count cs
are_cycles count [] h small = tt
are_cycles count (c ∷ cs) h small =
    let here = All-head (IsCycleBelow count) c cs h in
    (cycle_true count c here, all_are_small count c here.below small, are_cycles count cs (All-tail (IsCycleBelow count) c cs h) small)

-- edges between nodes that there are
abbrev pub EndsBelow : ℕ → List (ℕ × ℕ) → Type 0
EndsBelow count [] = Unit {0}
EndsBelow count (e ∷ es) = (e.0 < count) × (e.1 < count) × EndsBelow count es

ends_append : (count : ℕ) (es fs : List (ℕ × ℕ)) → EndsBelow count es → EndsBelow count fs → EndsBelow count (es ++ fs)
ends_append count [] fs h g = g
ends_append count (e ∷ es) fs h g = (h.0, h.1, ends_append count es fs h.2 g)

ends_bridges : (count : ℕ) (bs : List (ℕ × ℕ)) → All (IsBridgeBelow count) bs → EndsBelow count bs
ends_bridges count [] h = tt
ends_bridges count (b ∷ bs) h =
    let here = All-head (IsBridgeBelow count) b bs h in
    (omega (arith, here.0, here.1), here.1, ends_bridges count bs (All-tail (IsBridgeBelow count) b bs h))

ends_along : (count first at : ℕ) (rest : List ℕ) → first < count → at < count → All (λ i. i < count) rest → EndsBelow count (edges_along first at rest)
ends_along count first at [] h g a = (g, h, tt)
ends_along count first at (next ∷ rest) h g a =
    let here = All-head (λ i. i < count) next rest a in
    (g, here, ends_along count first next rest h here (All-tail (λ i. i < count) next rest a))

ends_cycle : (count : ℕ) (c : List ℕ) → All (λ i. i < count) c → EndsBelow count (cycle_edges c)
ends_cycle count [] h = tt
ends_cycle count (x ∷ xs) h =
    let here = All-head (λ i. i < count) x xs h in
    ends_along count x x xs here here (All-tail (λ i. i < count) x xs h)

ends_cycles : (count : ℕ) (cs : List (List ℕ)) → All (IsCycleBelow count) cs → EndsBelow count (flat_map cycle_edges cs)
ends_cycles count [] h = tt
ends_cycles count (c ∷ cs) h =
    let here = All-head (IsCycleBelow count) c cs h in
    ends_append count (cycle_edges c) (flat_map cycle_edges cs) (ends_cycle count c here.below) (ends_cycles count cs (All-tail (IsCycleBelow count) c cs h))

pub ends_all : (flat : Flat) → All (IsBridgeBelow (length flat.nodes)) flat.bridges → All (IsCycleBelow (length flat.nodes)) flat.cycles → EndsBelow (length flat.nodes) (all_edges flat)
ends_all flat bridges cycles =
    let count = length flat.nodes in
    ends_append count flat.bridges (flat_map cycle_edges flat.cycles) (ends_bridges count flat.bridges bridges) (ends_cycles count flat.cycles cycles)

-- nodes of one label keep one label
fold_same : (labels : List ℕ) (es : List (ℕ × ℕ)) (k m : ℕ) → k < length labels → m < length labels → slice_index labels k ≡ slice_index labels m
    → slice_index (fold relabelled labels es) k ≡ slice_index (fold relabelled labels es) m
fold_same labels [] k m h g e = e
fold_same labels ((i, j) ∷ es) k m h g e =
    let after = relabelled labels (i, j) in
    let size : length after ≡ length labels = length-map labels _ in
    fold_same after es k m (omega (arith, size, h)) (omega (arith, size, g)) (at_same labels i j k m h g e)

pub fold_size : (labels : List ℕ) (es : List (ℕ × ℕ)) → length (fold relabelled labels es) ≡ length labels
fold_size labels [] = refl
fold_size labels (e ∷ es) = fold_size (relabelled labels e) es ∙ length-map labels _

-- the nodes of a label are a closed set
fold_closed : (labels : List ℕ) (es : List (ℕ × ℕ)) (c count : ℕ) → length labels ≡ count → EndsBelow count es → IsClosed es (λ i. slice_index (fold relabelled labels es) i == c)
fold_closed labels [] c count size h = tt
fold_closed labels ((i, j) ∷ es) c count size h =
    let after = relabelled labels (i, j) in
    let still : length after ≡ length labels = length-map labels _ in
    let first : i < length labels = omega (arith, size, h.0) in
    let second : j < length labels = omega (arith, size, h.1) in
    let equal : slice_index after i ≡ slice_index after j = at_own labels i j first ∙ sym (at_changed labels i j j second refl) in
    let last = fold_same after es i j (omega (arith, still, first)) (omega (arith, still, second)) equal in
    (ap (λ l. l == c) last, fold_closed after es c count (still ∙ size) h.2)

joined_true : (flat : Flat) → IsWellFormed flat → is_joined flat ≡ true
joined_true flat w =
    let count = length flat.nodes in
    let edges = all_edges flat in
    let start = range_with_len 0 count in
    let labels = fold relabelled start edges in
    let first = slice_index labels 0 in
    let ends = ends_all flat w.bridges w.cycles in
    let closed = fold_closed start edges first count (length-range_with_len 0 count) ends in
    let size : length labels ≡ count = fold_size start edges ∙ length-range_with_len 0 count in
    all_equal first labels (λ k g. eqb-true (slice_index labels k) first
    (w.joined k (omega (arith, g, size)) (λ i. slice_index labels i == first) closed (eq-eqb first first refl)))

all_range : (p : ℕ → Bool) (a n : ℕ) → ((v : ℕ) → a ≤ v → v < a + n → p v ≡ true) → list_all p (range_with_len a n) ≡ true
all_range p a zero h = refl
all_range p a (suc n) h =
    ap (λ (b : Bool). b && list_all p (range_with_len (a + 1) n)) (h a (omega arith) (omega arith))
    ∙ all_range p (a + 1) n (λ v g k. h v (omega (arith, g)) (omega (arith, k)))

complete_true : (value : ℕ) (flat : Flat) → IsWellFormed flat → is_complete (counts_for value flat) flat ≡ true
complete_true value flat w =
    let a = length flat.nodes in
    let b = length flat.bridges in
    let c = length flat.cycles in
    let placed = list_all (is_placed flat) (range_with_len 1 flat.vertices) in
    ap (λ (t : Bool). t && b == b && c == c && placed) (eq-eqb a a refl)
    ∙ ap (λ (t : Bool). t && c == c && placed) (eq-eqb b b refl)
    ∙ ap (λ (t : Bool). t && placed) (eq-eqb c c refl)
    ∙ all_range (is_placed flat) 1 flat.vertices (λ v g k. filter_any (λ l. has l v) flat.nodes (let one = w.in_one_node v g (omega (arith, k)) in omega (arith, one)))

tree_true : (flat : Flat) → IsWellFormed flat → is_tree flat ≡ true
tree_true flat w =
    ap (λ (t : Bool). t && is_joined flat) (eq-eqb (length flat.nodes) (1 + length flat.bridges + sum_by (λ c. length c - 1) flat.cycles) w.count)
    ∙ joined_true flat w

some_vertex : (n : ℕ) (nodes : List (List ℕ)) → All (IsAscendingWithin 1 n) nodes → has (slice_index_or nodes 0 []) 1 ≡ true → 1 ≤ n
some_vertex n [] h e = absurd (cc e)
some_vertex n (vs ∷ nodes) h e = (member_within 1 n 1 vs (All-head (IsAscendingWithin 1 n) vs nodes h) e).1

cycles_below : (count : ℕ) (cs : List (List ℕ)) → All (IsCycleBelow count) cs → length cs ≤ sum_by (λ c. length c - 1) cs
cycles_below count [] h = omega arith
cycles_below count (c ∷ cs) h =
    let long = (All-head (IsCycleBelow count) c cs h).long in
    omega (arith, long, sum_by-cons (λ k. length k - 1) c cs, cycles_below count cs (All-tail (IsCycleBelow count) c cs h))

-- with a value and counts that have room
pub well_formed_readable : (value : ℕ) (flat : Flat) → IsWellFormed flat → value ≤ 2 ^ 62 → flat.vertices ≤ 4194304
    → length flat.nodes < 2 ^ 64 → IsReadable value flat
well_formed_readable value flat w bounded most nodes =
    let many = cycles_below (length flat.nodes) flat.cycles w.cycles in
    let bridges : length flat.bridges < 2 ^ 64 = omega (arith, w.count, nodes) in
    let cycles : length flat.cycles < 2 ^ 64 = omega (arith, w.count, nodes, many) in
    let one : has (node_at flat 0) 1 ≡ true = contains_has (node_at flat 0) 1 w.first_has_one in
    let forms : FormsNodes flat.vertices flat.nodes =
    record { ascending = w.ascending; once = w.in_one_node; first = one; small = nodes; bounded = omega (arith, most) } in
    record {
      bounded = bounded;
      some = some_vertex flat.vertices flat.nodes w.ascending one;
      most = most;
      small_nodes = nodes;
      small_bridges = bridges;
      small_cycles = cycles;
      nodes = are_nodes flat.vertices flat.nodes [] flat.nodes forms refl;
      bridges = are_bridges (length flat.nodes) flat.bridges w.bridges nodes;
      cycles = are_cycles (length flat.nodes) flat.cycles w.cycles nodes;
      whole = ap (λ (t : Bool). t && is_tree flat) (complete_true value flat w) ∙ tree_true flat w;
    }

pub text_law : LawOfText
text_law value flat w bounded most nodes = printed_is_read value flat (well_formed_readable value flat w bounded most nodes)

pub cactus_text_law : LawOfCactusText
cactus_text_law value n root h bounded most nodes = text_law value (flat_of record { vertices = n; root = root }) (flat_form n root h) bounded most nodes
