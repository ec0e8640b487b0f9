-- The edges of a text of the first form: a pair of vertices has one entry if the smaller one's row has the greater one.
use Rattle.std.proofs.Common.{◌≡◌, ◌≢◌, ◌<◌, ◌≤◌, ◌-◌, ℕ, zero, suc, ◌+◌, Bool, false, List, [], ◌∷◌, ◌++◌, length, map, get_or, refl, ap, sym, ◌∙◌, subst, arith, inl, inr, ⊎_elim}
use Rattle.std.specs.Prelude.{◌==◌, if◌then◌else◌}
use Rattle.std.specs.List.{filter, flat_map, range_with_len}
use Rattle.std.proofs.lemmas.Bool.{cases_Bool, cases_lt, and_left, eqb-true, ne_eqb, eq-eqb}
use Rattle.std.proofs.lemmas.List.{append-nil}
use Rattle.std.proofs.lemmas.List.Elements.{filter-append}
use Rattle.cut_definitions.specs.declared.edge_list.Edge.{Edge}
use Rattle.cut_definitions.specs.Cuts.{has}
use Rattle.metis_reader.specs.Profile.{Entry}
use Rattle.metis_reader.specs.File.{is_from, edge_of, edges_of}
use Rattle.metis_reader.specs.Adjacency.{row, edge_from, edges_to, graph_of_rows}
use Rattle.metis_reader.proofs.PlainRows.{entry, row_entries, rows_entries, Distinct, Sound}

-- the entry, if the row names the vertex
abbrev pub entry_where : Bool → ℕ → ℕ → List Entry
entry_where named u v = if named then entry u v ∷ [] else []

-- The entries from one vertex to another.

other_row : (k u v : ℕ) (vs : List ℕ) → k ≢ u → filter (is_from u v) (row_entries k vs) ≡ []
other_row k u v [] ne = refl
other_row k u v (w ∷ vs) ne =
    let no : is_from u v (entry k w) ≡ false = and_left (k == u) (w == v) (ne_eqb k u ne) in
    rw no (other_row k u v vs ne)

later_rows : (k u v : ℕ) (rows : List (List ℕ)) → u < k → filter (is_from u v) (rows_entries k rows) ≡ []
later_rows k u v [] lt = refl
later_rows k u v (row ∷ rows) lt =
    filter-append (is_from u v) (row_entries k row) (rows_entries (suc k) rows)
    ∙ ap (λ es. es ++ filter (is_from u v) (rows_entries (suc k) rows)) (other_row k u v row (λ e. absurd (omega arith)))
    ∙ later_rows (suc k) u v rows (omega arith)

own : (u v w : ℕ) → is_from u v (entry u w) ≡ (w == v)
own u v w = rw (eq-eqb u u refl) refl

own_row : (u v : ℕ) (vs : List ℕ) → Distinct vs → filter (is_from u v) (row_entries u vs) ≡ entry_where (has vs v) u v
own_row u v [] d = refl
own_row u v (w ∷ vs) d =
    let rest : filter (is_from u v) (row_entries u vs) ≡ entry_where (has vs v) u v = own_row u v vs d.1 in
    elim (cases_Bool (w == v)) [
      | inl t ↦
          let same : w ≡ v = eqb-true w v t in
          let none : has vs v ≡ false = subst (λ (x : ℕ). has vs x ≡ false) same d.0 in
          rw (own u v w, t) (ap (λ es. entry u w ∷ es) (rest ∙ ap (λ (b : Bool). entry_where b u v) none) ∙ ap (λ (x : ℕ). entry u x ∷ []) same)
      | inr f ↦ rw (own u v w, f) rest
    ]

-- from u to v there is one entry if the row of u names v, and none otherwise
pub entries_from : (n k u v : ℕ) (rows : List (List ℕ)) → Sound n k rows → k ≤ u → u < k + length rows
    → filter (is_from u v) (rows_entries k rows) ≡ entry_where (has (get_or rows (u - k) []) v) u v
entries_from n k u v [] s low high = absurd (omega arith)
entries_from n k u v (row ∷ rows) s low high =
    filter-append (is_from u v) (row_entries k row) (rows_entries (suc k) rows)
    ∙ ⊎_elim
    (λ (lt : k < u).
    let next : suc (u - suc k) ≡ u - k = omega arith in
    ap (λ es. es ++ filter (is_from u v) (rows_entries (suc k) rows)) (other_row k u v row (λ e. absurd (omega arith)))
    ∙ entries_from n (suc k) u v rows s.2 (omega arith) (omega arith)
    ∙ ap (λ (j : ℕ). entry_where (has (get_or (row ∷ rows) j []) v) u v) next)
    (λ (le : u ≤ k).
    let same : k ≡ u = omega arith in
    let place : 0 ≡ u - k = omega arith in
    ap (λ es. es ++ filter (is_from u v) (rows_entries (suc k) rows)) (subst (λ (x : ℕ). filter (is_from u v) (row_entries x row) ≡ entry_where (has row v) u v) (sym same) (own_row u v row s.1))
    ∙ ap (λ es. entry_where (has row v) u v ++ es) (later_rows (suc k) u v rows (omega arith))
    ∙ append-nil (entry_where (has row v) u v)
    ∙ ap (λ (j : ℕ). entry_where (has (get_or (row ∷ rows) j []) v) u v) place)
    (cases_lt k u)

-- All edges.

abbrev cells : List Entry → ℕ → List ℕ → List Edge
cells all u vs = flat_map (λ v. map edge_of (filter (is_from u v) all)) vs

edges_from : (all : List Entry) (names : List ℕ) (u : ℕ) → ((v : ℕ) → filter (is_from u v) all ≡ entry_where (has names v) u v) → (vs : List ℕ)
    → cells all u vs ≡ filter (λ (e : Edge). has names e.v) (map (edge_from u) vs)
edges_from all names u cell [] = refl
edges_from all names u cell (v ∷ vs) =
    let rest = edges_from all names u cell vs in
    ap (λ es. map edge_of es ++ cells all u vs) (cell v)
    ∙ elim (cases_Bool (has names v)) [
      | inl t ↦ rw t (ap (λ es. edge_from u v ∷ es) rest)
      | inr f ↦ rw f rest
    ]

edges_of_rows : (n b count : ℕ) (rows : List (List ℕ)) → length rows ≡ n → Sound n 1 rows → 1 ≤ b → b + count ≤ suc n
    → flat_map (λ u. cells (rows_entries 1 rows) u (range_with_len (suc u) (n - u))) (range_with_len b count)
    ≡ flat_map (λ from. edges_to (row rows from) from (n - from)) (range_with_len b count)
edges_of_rows n b zero rows e s low high = refl
edges_of_rows n b (suc count) rows e s low high =
    let start : suc b ≡ b + 1 = omega arith in
    let here : cells (rows_entries 1 rows) b (range_with_len (suc b) (n - b)) ≡ edges_to (row rows b) b (n - b) =
    edges_from (rows_entries 1 rows) (row rows b) b (λ v. entries_from n 1 b v rows s low (omega arith)) (range_with_len (suc b) (n - b))
    ∙ ap (λ (a : ℕ). filter (λ (e : Edge). has (row rows b) e.v) (map (edge_from b) (range_with_len a (n - b)))) start in
    ap (λ es. es ++ flat_map (λ u. cells (rows_entries 1 rows) u (range_with_len (suc u) (n - u))) (range_with_len (b + 1) count)) here
    ∙ ap (λ es. edges_to (row rows b) b (n - b) ++ es) (edges_of_rows n (b + 1) count rows e s (omega arith) (omega arith))

-- the edges of the rows' entries are those of the rows' graph
pub plain_edges : (n : ℕ) (rows : List (List ℕ)) → length rows ≡ n → Sound n 1 rows → edges_of n (rows_entries 1 rows) ≡ (graph_of_rows n rows).edges
plain_edges n rows e s = edges_of_rows n 1 n rows e s (omega arith) (omega arith)
