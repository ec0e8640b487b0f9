-- Sorted edges merged one by one, and what merged edges weigh.
use Rattle.std.proofs.Common.{◌≡◌, ℕ, ◌+◌, ◌-◌, ◌^◌, ◌<◌, ◌≤◌, ◌⊎◌, inl, inr, ⊎_elim, List, [], length, take, get_or, refl, sym, ◌∙◌, ap, arith}
use Rattle.std.specs.Prelude.{Bool, ◌≢◌, if◌then◌else◌}
use Rattle.std.specs.List.{sum_by, All, AllPairs}
use Rattle.std.proofs.lemmas.List.{length_push}
use Rattle.std.proofs.lemmas.List.Quantifiers.{all_pairs_push}
use Rattle.std.proofs.lemmas.List.Sums.{sum_by_more, sum_by_push}
use Rattle.std.proofs.lemmas.List.Elements.{All-push, All-weaker, All-nil}
use Rattle.cut_definitions.specs.declared.edge_list.Edge.{Edge}
use Rattle.cut_definitions.specs.Graph.{Graph, IsEdgeWithin, IsBefore, IsEdgeList, with_edge}
use Rattle.weighted_graph.specs.Merging.{term, AscendByEnds}
use Rattle.weighted_graph.specs.RowLaws.{no_edge}

abbrev weight_of : Edge → ℕ
weight_of e = e.w

-- what the first edges of a sorted list were merged to: the edges before the current one, and the current one
pub record IsMerged (n : ℕ) (sorted : List Edge) (count : ℕ) (merged : Graph) (current : Edge) : Type 0 where
  pub same_n : merged.vertices ≡ n
  pub within : All (IsEdgeWithin n) merged.edges
  pub ascending : AllPairs IsBefore merged.edges
  pub current_within : IsEdgeWithin n current
  pub before : All (λ d. IsBefore d current) merged.edges
  pub few : length merged.edges + 1 ≤ count
  pub weights : (f : ℕ → ℕ → Bool) → sum_by (term f) merged.edges + term f current ≡ sum_by (term f) (take count sorted)
  pub total : sum_by weight_of merged.edges + current.w ≡ sum_by weight_of (take count sorted)
  pub last_u : current.u ≡ (get_or sorted (count - 1) no_edge).u
  pub last_v : current.v ≡ (get_or sorted (count - 1) no_edge).v

pub merged_edge_list : (n : ℕ) (sorted : List Edge) (count : ℕ) (merged : Graph) (current : Edge) → IsMerged n sorted count merged current →
    n ≤ 4194304 → count ≤ 16777216 → sum_by weight_of (take count sorted) ≤ 2 ^ 61 → IsEdgeList (with_edge merged current)
merged_edge_list n sorted count merged current h few_n few_m total =
    let n_is = h.same_n in
    record {
      is_graph = record {
        in_range = rw n_is (All-push (IsEdgeWithin n) merged.edges current h.within h.current_within);
        ascending = all_pairs_push IsBefore merged.edges current h.ascending (λ k d l. h.before k d l);
        total = omega (arith, sum_by_push weight_of merged.edges current, h.total);
      };
      few_vertices = omega arith;
      few_edges = omega (arith, length_push merged.edges current, h.few);
    }

-- if all edges are merged each test weighs what it weighed
pub merged_all : (n : ℕ) (sorted : List Edge) (count : ℕ) (merged longer : Graph) (current : Edge) → IsMerged n sorted count merged current → longer ≡ with_edge merged current → take count sorted ≡ sorted →
    (f : ℕ → ℕ → Bool) → sum_by (term f) longer.edges ≡ sum_by (term f) sorted
merged_all n sorted count merged longer current h longer_is whole f =
    rw longer_is (omega (arith, sum_by_push (term f) merged.edges current, h.weights f, ap (λ (es : List Edge). sum_by (term f) es) whole))

pub merged_start : (n : ℕ) (sorted : List Edge) (merged : Graph) → merged ≡ record { vertices = n; edges = [] } → All (IsEdgeWithin n) sorted → 0 < length sorted →
    IsMerged n sorted 1 merged (get_or sorted 0 no_edge)
merged_start n sorted merged e within some =
    let first = get_or sorted 0 no_edge in
    rw e (record {
      same_n = refl;
      within = All-nil (IsEdgeWithin n);
      ascending = λ i j d l u. absurd (omega arith);
      current_within = within 0 no_edge some;
      before = All-nil (λ d. IsBefore d first);
      few = omega arith;
      weights = λ f. let m = sum_by_more (term f) sorted 0 no_edge some in sym m;
      total = let m = sum_by_more weight_of sorted 0 no_edge some in sym m;
      last_u = refl;
      last_v = refl;
    })

term-add : (f : ℕ → ℕ → Bool) (u v w x : ℕ) → (if f u v then w + x else 0) ≡ (if f u v then w else 0) + (if f u v then x else 0)
term-add f u v w x = grind arith

pub merged_same : (n : ℕ) (sorted : List Edge) (count : ℕ) (merged : Graph) (current next : Edge) → IsMerged n sorted count merged current → count < length sorted →
    next ≡ get_or sorted count no_edge → All (IsEdgeWithin n) sorted → next.u ≡ current.u → next.v ≡ current.v →
    IsMerged n sorted (count + 1) merged (record { u = current.u; v = current.v; w = current.w + next.w })
merged_same n sorted count merged current next h l is within eu ev =
    let more = λ (f : Edge → ℕ). sum_by_more f sorted count no_edge l ∙ ap (λ (e : Edge). sum_by f (take count sorted) + f e) (sym is) in
    let here : count + 1 - 1 ≡ count = omega arith in
    record {
      same_n = h.same_n;
      within = h.within;
      ascending = h.ascending;
      current_within = (h.current_within.0, h.current_within.1, h.current_within.2, omega (arith, h.current_within.3));
      before = h.before;
      few = omega (arith, h.few);
      weights = λ f.
          let m = more (term f) in
          let t : term f next ≡ (if f current.u current.v then next.w else 0) = rw (eu, ev) refl in
          omega (arith, m, t, h.weights f, term-add f current.u current.v current.w next.w);
      total = omega (arith, more weight_of, h.total);
      last_u = rw here (sym eu ∙ ap (λ (e : Edge). e.u) is);
      last_v = rw here (sym ev ∙ ap (λ (e : Edge). e.v) is);
    }

earlier : (a b c d x y : ℕ) → (a < c) ⊎ ((a ≡ c) × (b < d)) → (c < x) ⊎ ((c ≡ x) × (d < y)) → (a < x) ⊎ ((a ≡ x) × (b < y))
earlier a b c d x y p q =
    ⊎_elim
    (λ (l : a < c). inl (⊎_elim (λ (m : c < x). omega arith) (λ m. omega (arith, m.0)) q))
    (λ l. ⊎_elim (λ (m : c < x). inl (omega (arith, l.0))) (λ m. inr (omega (arith, l.0, m.0), omega (arith, l.1, m.1))) q)
    p

strictly : (a b c d : ℕ) → (a < c) ⊎ ((a ≡ c) × (b ≤ d)) → (c ≡ a → d ≢ b) → (a < c) ⊎ ((a ≡ c) × (b < d))
strictly a b c d p ne =
    ⊎_elim
    (λ (l : a < c). inl l)
    (λ l. inr (l.0, (let apart : d ≢ b = ne (sym l.0) in omega (arith, l.1))))
    p

pub merged_next : (n : ℕ) (sorted : List Edge) (count : ℕ) (merged longer : Graph) (current next : Edge) → IsMerged n sorted count merged current → 1 ≤ count → count < length sorted →
    next ≡ get_or sorted count no_edge → All (IsEdgeWithin n) sorted → AscendByEnds sorted → (next.u ≡ current.u → next.v ≢ current.v) → longer ≡ with_edge merged current →
    IsMerged n sorted (count + 1) longer next
merged_next n sorted count merged longer current next h one l is within ascending apart longer_is =
    let more = λ (f : Edge → ℕ). sum_by_more f sorted count no_edge l ∙ ap (λ (e : Edge). sum_by f (take count sorted) + f e) (sym is) in
    let here : count + 1 - 1 ≡ count = omega arith in
    let back : count - 1 + 1 ≡ count = omega arith in
    let step = ascending (count - 1) no_edge (omega arith) in
    let step2 : ((get_or sorted (count - 1) no_edge).u < (get_or sorted count no_edge).u) ⊎ (((get_or sorted (count - 1) no_edge).u ≡ (get_or sorted count no_edge).u) × ((get_or sorted (count - 1) no_edge).v ≤ (get_or sorted count no_edge).v)) = (rw back at step) in
    let step3 : (current.u < next.u) ⊎ ((current.u ≡ next.u) × (current.v ≤ next.v)) = rw (is, h.last_u, h.last_v) step2 in
    let after : (current.u < next.u) ⊎ ((current.u ≡ next.u) × (current.v < next.v)) = strictly current.u current.v next.u next.v step3 apart in
    rw longer_is (record {
      same_n = h.same_n;
      within = All-push (IsEdgeWithin n) merged.edges current h.within h.current_within;
      ascending = all_pairs_push IsBefore merged.edges current h.ascending (λ k d i. h.before k d i);
      current_within = rw is (within count no_edge l);
      before = All-push (λ d. IsBefore d next) merged.edges current
          (All-weaker (λ d. IsBefore d current) (λ d. IsBefore d next) (λ d b. earlier d.u d.v current.u current.v next.u next.v b after) merged.edges h.before) after;
      few = omega (arith, length_push merged.edges current, h.few);
      weights = λ f. omega (arith, more (term f), sum_by_push (term f) merged.edges current, h.weights f);
      total = omega (arith, more weight_of, sum_by_push weight_of merged.edges current, h.total);
      last_u = rw here (ap (λ (e : Edge). e.u) is);
      last_v = rw here (ap (λ (e : Edge). e.v) is);
    })
