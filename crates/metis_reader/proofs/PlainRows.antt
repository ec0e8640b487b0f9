-- The vertex lines of a text of the first form have no fault, and their entries are those of its rows.
use Rattle.std.proofs.Common.{◌≡◌, ◌≢◌, ◌<◌, ◌≤◌, ◌*◌, ◌-◌, ℕ, suc, ◌+◌, Bool, true, false, not, ◌||◌, List, [], ◌∷◌, ◌++◌, length, get_or, refl, ap, sym, ◌∙◌, subst, arith, ⊎_elim, length-append}
use Rattle.std.specs.Prelude.{◌==◌, nat_le, nat_lt}
use Rattle.std.specs.List.{All, AllPairs, Contains, list_any, sum_by}
use Rattle.std.proofs.lemmas.Bool.{cases_lt, or_from, le-ltb, lt-leb, ne_eqb}
use Rattle.std.proofs.lemmas.Bool.Decides.{nat_tests}
use Rattle.std.proofs.lemmas.List.Elements.{All-head, All-tail, All-contains, Contains-append_left, Contains-append_right, Contains-append_cases}
use Rattle.std.proofs.lemmas.List.Sums.{sum_by-cons}
use Rattle.cut_definitions.specs.Cuts.{has}
use Rattle.cut_definitions.proofs.Lists.{Contains-here, Contains-there, Contains-cons_cases, Contains-nil}
use Rattle.cut_definitions.proofs.Numbers.{eqb_flip}
use Rattle.cut_definitions.proofs.Ascending.{has_contains}
use Rattle.metis_reader.specs.declared.fault.FaultKind.{FaultKind}
use Rattle.metis_reader.specs.declared.fault.FaultKind.TheVariants.{Repeated, Unsymmetric}
use Rattle.metis_reader.specs.Text.{Piece, Line, is_number}
use Rattle.metis_reader.specs.Profile.{Header, Entry, value, entries, not_a_number, neighbour_faults, found_at, entry_findings}
use Rattle.metis_reader.specs.File.{VertexLine, vertex_lines, all_entries, body_findings, end_findings, first_line, has_repeat, is_to, is_mate, lacks_mate}
use Rattle.metis_reader.specs.Adjacency.{row, IsAdjacency, IsRowOf, IsNeighbour}
use Rattle.metis_reader.proofs.Faults.{no_fault, inside}
use Rattle.metis_reader.proofs.Rows.{any_true, any_none, has_any}
use Rattle.metis_reader.proofs.PlainText.{Writes, Reads}

-- the header of a file with no weights
abbrev pub plain_header : ℕ → ℕ → Header
plain_header n m = record { vertices = n; edges = m; leading = 0; sizes = 0; has_edge_weights = false }

abbrev pub entry : ℕ → ℕ → Entry
entry u v = record { from = u; to = v; weight = 1 }

abbrev pub row_entries : ℕ → List ℕ → List Entry
row_entries u [] = []
row_entries u (v ∷ vs) = entry u v ∷ row_entries u vs

-- the entries of the rows of the vertices from this one on
abbrev pub rows_entries : ℕ → List (List ℕ) → List Entry
rows_entries k [] = []
rows_entries k (row ∷ rows) = row_entries k row ++ rows_entries (suc k) rows

-- What a row is, element by element.

abbrev pub Fits : ℕ → ℕ → List ℕ → Type 0
Fits n u [] = Unit {0}
Fits n u (v ∷ vs) = (1 ≤ v) × (v ≤ n) × (v ≢ u) × Fits n u vs

-- each number is there once
abbrev pub Distinct : List ℕ → Type 0
Distinct [] = Unit {0}
Distinct (v ∷ vs) = (has vs v ≡ false) × Distinct vs

abbrev pub Sound : ℕ → ℕ → List (List ℕ) → Type 0
Sound n k [] = Unit {0}
Sound n k (row ∷ rows) = Fits n k row × Distinct row × Sound n (suc k) rows

fits : (rows : List (List ℕ)) (n u : ℕ) (vs : List ℕ) → length rows ≡ n → All (IsNeighbour rows u) vs → Fits n u vs
fits rows n u [] e all = tt
fits rows n u (v ∷ vs) e all =
    let is : IsNeighbour rows u v = All-head (IsNeighbour rows u) v vs all in
    let high : v ≤ length rows = is.to_n in
    (is.from_one, omega arith, is.other, fits rows n u vs e (All-tail (IsNeighbour rows u) v vs all))

absent : (v : ℕ) (vs : List ℕ) → ((j : ℕ) → j < length vs → v ≢ get_or vs j v) → has vs v ≡ false
absent v [] h = refl
absent v (w ∷ vs) h =
    or_from (w == v) (has vs v) (ne_eqb w v (λ e. h 0 (omega arith) (sym e))) (absent v vs (λ j lt. h (suc j) (omega arith)))

distinct : (vs : List ℕ) → AllPairs (λ v w. v ≢ w) vs → Distinct vs
distinct [] h = tt
distinct (v ∷ vs) h = (
  absent v vs (λ j lt. h 0 (suc j) v (omega arith) (omega arith)),
  distinct vs (λ i j d lt in_list. h (suc i) (suc j) d (omega arith) (omega arith)),
)

sound_from : (n k : ℕ) (rows : List (List ℕ))
    → ((u : ℕ) → k ≤ u → u < k + length rows → Fits n u (get_or rows (u - k) []) × Distinct (get_or rows (u - k) [])) → Sound n k rows
sound_from n k [] h = tt
sound_from n k (row ∷ rows) h =
    let own : k - k ≡ 0 = omega arith in
    let here = subst (λ (j : ℕ). Fits n k (get_or (row ∷ rows) j []) × Distinct (get_or (row ∷ rows) j [])) own (h k (omega arith) (omega arith)) in (
      here.0,
      here.1,
      sound_from n (suc k) rows
          (λ u le lt.
          let next : u - k ≡ suc (u - suc k) = omega arith in
          subst (λ (j : ℕ). Fits n u (get_or (row ∷ rows) j []) × Distinct (get_or (row ∷ rows) j [])) next (h u (omega arith) (omega arith))),
    )

pub sound : (n : ℕ) (rows : List (List ℕ)) → length rows ≡ n → IsAdjacency rows → Sound n 1 rows
sound n rows e adjacency =
    sound_from n 1 rows (λ u le lt.
    let is : IsRowOf rows u = adjacency.each u le (omega arith) in
    (fits rows n u (row rows u) e is.neighbours, distinct (row rows u) is.each_once))

-- The faults of a vertex line.

entries_are : (u : ℕ) (words : List Piece) (vs : List ℕ) → Writes words vs → entries false u words ≡ row_entries u vs
entries_are u [] [] h = refl
entries_are u [] (v ∷ vs) h = absurd h
entries_are u (word ∷ words) [] h = absurd h
entries_are u (word ∷ words) (v ∷ vs) h = ap (λ (x : ℕ). entry u x ∷ entries false u words) h.1 ∙ ap (λ es. entry u v ∷ es) (entries_are u words vs h.2)

no_bad_number : (word : Piece) → is_number word.bytes ≡ true → not_a_number word ≡ []
no_bad_number word e = rw e refl

neighbour_none : (n m u : ℕ) (before : List Entry) (word : Piece) (v : ℕ) → is_number word.bytes ≡ true → value word ≡ v → length before < 2 * m
    → 1 ≤ v → v ≤ n → v ≢ u → neighbour_faults (plain_header n m) u before word ≡ []
neighbour_none n m u before word v number is room low high other =
    no_fault (not_a_number word) (nat_le (2 * m) (length before)) (value word == 0 || nat_lt n (value word)) (value word == u)
    (no_bad_number word number) (lt-leb (2 * m) (length before) room)
    (ap (λ (x : ℕ). x == 0 || nat_lt n x) is ∙ inside v n (λ e. absurd (omega arith)) high)
    (ap (λ (x : ℕ). x == u) is ∙ ne_eqb v u other)

line_none : (n m u line end : ℕ) (words : List Piece) (vs : List ℕ) (before : List Entry) → Writes words vs → Fits n u vs → length before + length vs ≤ 2 * m
    → entry_findings (plain_header n m) false u before line end words ≡ []
line_none n m u line end [] [] before h fit room = refl
line_none n m u line end [] (v ∷ vs) before h fit room = absurd h
line_none n m u line end (word ∷ words) [] before h fit room = absurd h
line_none n m u line end (word ∷ words) (v ∷ vs) before h fit room =
    let here = neighbour_none n m u before word v h.0 h.1 (omega arith) fit.0 fit.1 fit.2 in
    let longer = length-append before (entry u (value word) ∷ []) in
    ap (λ fs. found_at word.place line fs ++ entry_findings (plain_header n m) false u (before ++ entry u (value word) ∷ []) line end words) here
    ∙ line_none n m u line end words vs (before ++ entry u (value word) ∷ []) h.2 fit.3 (omega arith)

row_long : (u : ℕ) (vs : List ℕ) → length (row_entries u vs) ≡ length vs
row_long u [] = refl
row_long u (v ∷ vs) = ap (λ n. suc n) (row_long u vs)

pub rows_long : (k : ℕ) (rows : List (List ℕ)) → length (rows_entries k rows) ≡ sum_by length rows
rows_long k [] = refl
rows_long k (row ∷ rows) =
    let here = row_long k row in
    let rest : length (rows_entries (suc k) rows) ≡ sum_by length rows = rows_long (suc k) rows in
    let both = length-append (row_entries k row) (rows_entries (suc k) rows) in
    let sum : sum_by length (row ∷ rows) ≡ length row + sum_by length rows = sum_by-cons (λ (row : List ℕ). length row) row rows in
    omega arith

pub body_none : (n m k : ℕ) (lines : List Line) (rows : List (List ℕ)) (before : List Entry) → Reads lines rows → Sound n k rows
    → length before + sum_by length rows ≤ 2 * m → body_findings (plain_header n m) k (length rows) before lines ≡ []
body_none n m k [] [] before h s room = refl
body_none n m k [] (row ∷ rows) before h s room = absurd h
body_none n m k (line ∷ lines) [] before h s room = absurd h
body_none n m k (line ∷ lines) (row ∷ rows) before h s room =
    let sum : sum_by length (row ∷ rows) ≡ length row + sum_by length rows = sum_by-cons (λ (row : List ℕ). length row) row rows in
    let here = line_none n m k line.number line.place line.words row before h.0.1 s.0 (omega arith) in
    let long : length (entries false k line.words) ≡ length row = ap length (entries_are k line.words row h.0.1) ∙ row_long k row in
    let longer = length-append before (entries false k line.words) in
    ap (λ fs. fs ++ body_findings (plain_header n m) (suc k) (length rows) (before ++ entries false k line.words) lines) here
    ∙ body_none n m (suc k) lines rows (before ++ entries false k line.words) h.1 s.2 (omega arith)

-- The vertex lines.

abbrev pub plain_lines : ℕ → ℕ → ℕ → List (List ℕ) → List Line → List VertexLine
plain_lines n m k rows lines = vertex_lines (plain_header n m) k (length rows) lines

pub entries_of_lines : (n m k : ℕ) (lines : List Line) (rows : List (List ℕ)) → Reads lines rows → all_entries (plain_lines n m k rows lines) ≡ rows_entries k rows
entries_of_lines n m k [] [] h = refl
entries_of_lines n m k [] (row ∷ rows) h = absurd h
entries_of_lines n m k (line ∷ lines) [] h = absurd h
entries_of_lines n m k (line ∷ lines) (row ∷ rows) h =
    ap (λ es. es ++ all_entries (plain_lines n m (suc k) rows lines)) (entries_are k line.words row h.0.1)
    ∙ ap (λ es. row_entries k row ++ es) (entries_of_lines n m (suc k) lines rows h.1)

pub all_lines : (n m k : ℕ) (lines : List Line) (rows : List (List ℕ)) → Reads lines rows → length (plain_lines n m k rows lines) ≡ length rows
all_lines n m k [] [] h = refl
all_lines n m k [] (row ∷ rows) h = absurd h
all_lines n m k (line ∷ lines) [] h = absurd h
all_lines n m k (line ∷ lines) (row ∷ rows) h = ap (λ (n : ℕ). suc n) (all_lines n m (suc k) lines rows h.1)

same_any : (u v : ℕ) (vs : List ℕ) → list_any (is_to (entry u v)) (row_entries u vs) ≡ has vs v
same_any u v [] = refl
same_any u v (w ∷ vs) = ap (λ (b : Bool). b || list_any (is_to (entry u v)) (row_entries u vs)) (eqb_flip v w) ∙ ap (λ (b : Bool). (w == v) || b) (same_any u v vs)

row_once : (u : ℕ) (vs : List ℕ) → Distinct vs → has_repeat (row_entries u vs) ≡ false
row_once u [] d = refl
row_once u (v ∷ vs) d =
    or_from (list_any (is_to (entry u v)) (row_entries u vs)) (has_repeat (row_entries u vs)) (same_any u v vs ∙ d.0) (row_once u vs d.1)

pub none_repeated : (kind : FaultKind) (end n m k : ℕ) (lines : List Line) (rows : List (List ℕ)) → Reads lines rows → Sound n k rows
    → first_line (λ (v : VertexLine). has_repeat v.entries) kind end (plain_lines n m k rows lines) ≡ []
none_repeated kind end n m k [] [] h s = refl
none_repeated kind end n m k [] (row ∷ rows) h s = absurd h
none_repeated kind end n m k (line ∷ lines) [] h s = absurd h
none_repeated kind end n m k (line ∷ lines) (row ∷ rows) h s =
    let here : has_repeat (entries false k line.words) ≡ false = ap has_repeat (entries_are k line.words row h.0.1) ∙ row_once k row s.1 in
    rw here (none_repeated kind end n m (suc k) lines rows h.1 s.2)

-- Each entry has its mate.

in_row : (u : ℕ) (vs : List ℕ) (e : Entry) → Contains (row_entries u vs) e → (v : ℕ) × Contains vs v × (entry u v ≡ e)
in_row u [] e h = absurd (Contains-nil e h)
in_row u (v ∷ vs) e h =
    ⊎_elim (λ same. (v, Contains-here v vs, same)) (λ t. let more = in_row u vs e t in (more.0, Contains-there v vs more.0 more.1, more.2))
    (Contains-cons_cases (entry u v) (row_entries u vs) e h)

to_row : (u v : ℕ) (vs : List ℕ) → Contains vs v → Contains (row_entries u vs) (entry u v)
to_row u v [] h = absurd (Contains-nil v h)
to_row u v (w ∷ vs) h =
    ⊎_elim (λ same. subst (λ (x : ℕ). Contains (row_entries u (w ∷ vs)) (entry u x)) same (Contains-here (entry u w) (row_entries u vs)))
    (λ t. Contains-there (entry u w) (row_entries u vs) (entry u v) (to_row u v vs t)) (Contains-cons_cases w vs v h)

-- a vertex of these rows that has this entry
pub record StandsIn (k : ℕ) (rows : List (List ℕ)) (e : Entry) : Type 0 where
  pub u : ℕ
  pub v : ℕ
  pub low : k ≤ u
  pub high : u < k + length rows
  pub stands : Contains (get_or rows (u - k) []) v
  pub is : entry u v ≡ e

in_rows : (k : ℕ) (rows : List (List ℕ)) (e : Entry) → Contains (rows_entries k rows) e → StandsIn k rows e
in_rows k [] e h = absurd (Contains-nil e h)
in_rows k (row ∷ rows) e h =
    ⊎_elim
    (λ l.
    let r = in_row k row e l in
    let own : 0 ≡ k - k = omega arith in
    record { u = k; v = r.0; low = omega arith; high = omega arith; stands = subst (λ (j : ℕ). Contains (get_or (row ∷ rows) j []) r.0) own r.1; is = r.2 })
    (λ t.
    let r = in_rows (suc k) rows e t in
    let low : suc k ≤ r.u = r.low in
    let high : r.u < suc k + length rows = r.high in
    let next : suc (r.u - suc k) ≡ r.u - k = omega arith in
    record { u = r.u; v = r.v; low = omega arith; high = omega arith; stands = subst (λ (j : ℕ). Contains (get_or (row ∷ rows) j []) r.v) next r.stands; is = r.is })
    (Contains-append_cases (row_entries k row) (rows_entries (suc k) rows) e h)

to_rows : (k u v : ℕ) (rows : List (List ℕ)) → k ≤ u → u < k + length rows → Contains (get_or rows (u - k) []) v → Contains (rows_entries k rows) (entry u v)
to_rows k u v [] low high h = absurd (omega arith)
to_rows k u v (row ∷ rows) low high h =
    ⊎_elim
    (λ (lt : k < u).
    let next : u - k ≡ suc (u - suc k) = omega arith in
    Contains-append_right (row_entries k row) (rows_entries (suc k) rows) (entry u v)
    (to_rows (suc k) u v rows (omega arith) (omega arith) (subst (λ (j : ℕ). Contains (get_or (row ∷ rows) j []) v) next h)))
    (λ (le : u ≤ k).
    let same : k ≡ u = omega arith in
    let own : u - k ≡ 0 = omega arith in
    Contains-append_left (row_entries k row) (rows_entries (suc k) rows) (entry u v)
    (subst (λ (x : ℕ). Contains (row_entries k row) (entry x v)) same (to_row k v row (subst (λ (j : ℕ). Contains (get_or (row ∷ rows) j []) v) own h))))
    (cases_lt k u)

mate : (u v : ℕ) → is_mate (entry u v) (entry v u) ≡ true
mate u v = grind (arith, nat_tests)

-- each entry has its mate, since the rows name each other in turn
pub all_mates : (rows : List (List ℕ)) → IsAdjacency rows → (e : Entry) → Contains (rows_entries 1 rows) e → lacks_mate (rows_entries 1 rows) e ≡ false
all_mates rows adjacency e h =
    let s = in_rows 1 rows e h in
    let low : 1 ≤ s.u = s.low in
    let high : s.u < 1 + length rows = s.high in
    let is : IsRowOf rows s.u = adjacency.each s.u low (omega arith) in
    let v : IsNeighbour rows s.u s.v = All-contains (IsNeighbour rows s.u) (row rows s.u) s.v is.neighbours s.stands in
    let most : s.v ≤ length rows = v.to_n in
    let back = to_rows 1 s.v s.u rows v.from_one (omega arith) (has_contains (row rows s.v) s.u v.in_turn) in
    let found : list_any (is_mate (entry s.u s.v)) (rows_entries 1 rows) ≡ true = any_true (is_mate (entry s.u s.v)) (rows_entries 1 rows) (entry s.v s.u) back (mate s.u s.v) in
    subst (λ e. lacks_mate (rows_entries 1 rows) e ≡ false) s.is (ap (λ (b : Bool). not b) found)

-- The end of the input.

ending_none : (header : Header) (end count : ℕ) (vs : List VertexLine) → header.vertices ≤ length vs → 2 * header.edges ≤ length (all_entries vs)
    → first_line (λ (v : VertexLine). has_repeat v.entries) Repeated end vs ≡ []
    → first_line (has_any (lacks_mate (all_entries vs))) Unsymmetric end vs ≡ [] → end_findings header end count vs ≡ []
ending_none header end count vs lines many repeated unsymmetric =
    rw (le-ltb (length vs) header.vertices lines, le-ltb (length (all_entries vs)) (2 * header.edges) many) (ap (λ fs. fs ++ first_line (has_any (lacks_mate (all_entries vs))) Unsymmetric end vs) repeated ∙ unsymmetric)

pub end_none_plain : (n m end count : ℕ) (lines : List Line) (rows : List (List ℕ)) → Reads lines rows → length rows ≡ n → Sound n 1 rows → IsAdjacency rows
    → sum_by length rows ≡ 2 * m → end_findings (plain_header n m) end count (plain_lines n m 1 rows lines) ≡ []
end_none_plain n m end count lines rows h e s adjacency sum =
    let vs : List VertexLine = plain_lines n m 1 rows lines in
    let many : length vs ≡ length rows = all_lines n m 1 lines rows h in
    let es : all_entries vs ≡ rows_entries 1 rows = entries_of_lines n m 1 lines rows h in
    let long : length (all_entries vs) ≡ sum_by length rows = ap length es ∙ rows_long 1 rows in
    let mates : (d : Entry) → Contains (all_entries vs) d → lacks_mate (all_entries vs) d ≡ false =
    subst (λ all. (d : Entry) → Contains all d → lacks_mate all d ≡ false) (sym es) (all_mates rows adjacency) in
    ending_none (plain_header n m) end count vs (omega arith) (omega arith)
    (none_repeated Repeated end n m 1 lines rows h s)
    (any_none (lacks_mate (all_entries vs)) Unsymmetric end vs mates)
