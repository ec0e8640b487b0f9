-- A text of the first form is a file without a fault, and has the same graph.
use Rattle.std.proofs.Common.{◌≡◌, ◌≤◌, ◌*◌, ◌^◌, ◌+◌, ℕ, suc, Bool, true, List, [], ◌∷◌, ◌++◌, length, take, refl, ap, sym, ◌∙◌, subst, arith, Some, None, Ok, Err, sum_by}
use Rattle.std.specs.Prelude.{Result, if◌then◌else◌}
use Rattle.std.specs.List.{filter}
use Rattle.std.proofs.lemmas.Bool.{le-ltb, not_from_false}
use Rattle.std.proofs.lemmas.List.Sums.{sum_by-cons}
use Rattle.cut_definitions.specs.declared.edge_list.Edge.{Edge}
use Rattle.cut_definitions.specs.Graph.{Graph}
use Rattle.metis_reader.specs.declared.fault.Fault.{Fault}
use Rattle.metis_reader.specs.declared.fault.FaultKind.{FaultKind}
use Rattle.metis_reader.specs.declared.fault.FaultKind.TheVariants.{TooManyVertices, TooManyEdges, InputTooLong}
use Rattle.metis_reader.specs.Text.{Piece, Line, lines, is_line_feed, is_number}
use Rattle.metis_reader.specs.Profile.{Finding, Header, value, found_at, where_true, count_faults, header_of, header_findings}
use Rattle.metis_reader.specs.File.{body_findings, end_findings, vertex_lines, is_kept, from_header, file_findings, too_long, edges_of, all_entries, edge_list, findings, first, fault_of, graph_of}
use Rattle.metis_reader.specs.Adjacency.{graph_of_rows}
use Rattle.metis_reader.specs.FirstForm.{IsAnnounced, LawOfFirstForm, rows_of}
use Rattle.metis_reader.proofs.PlainText.{Writes, Reads, read_plain, few_numbers}
use Rattle.metis_reader.proofs.PlainRows.{plain_header, plain_lines, Sound, sound, body_none, entries_of_lines, end_none_plain}
use Rattle.metis_reader.proofs.PlainEdges.{plain_edges}

-- The header.

-- these are the words n and m
record IsHeader (words : List Piece) (n m : ℕ) : Type 0 where
  pub first : Piece
  pub second : Piece
  pub words_are : first ∷ second ∷ [] ≡ words
  pub first_number : is_number first.bytes ≡ true
  pub second_number : is_number second.bytes ≡ true
  pub first_is : value first ≡ n
  pub second_is : value second ≡ m

two_words : (words : List Piece) (n m : ℕ) → Writes words (n ∷ m ∷ []) → IsHeader words n m
two_words [] n m h = absurd h
two_words (a ∷ []) n m h = absurd h.2
two_words (a ∷ b ∷ []) n m h = record { first = a; second = b; words_are = refl; first_number = h.0; second_number = h.2.0; first_is = h.1; second_is = h.2.1 }
two_words (a ∷ b ∷ c ∷ words) n m h = absurd h.2.2

count_none : (most : ℕ) (kind : FaultKind) (word : Piece) → is_number word.bytes ≡ true → value word ≤ most → count_faults most kind word ≡ []
count_none most kind word number fits = rw (number, le-ltb most (value word) fits) refl

abbrev header_line : Line → Piece → Piece → Line
header_line line a b = record { number = line.number; is_comment = line.is_comment; words = a ∷ b ∷ []; place = line.place }

header_none : (line : Line) (a b : Piece) → is_number a.bytes ≡ true → is_number b.bytes ≡ true → value a ≤ 4_194_304 → value b ≤ 16_777_216
    → header_findings (header_line line a b) ≡ []
header_none line a b p q low high =
    ap (λ fs. (found_at a.place line.number fs ++ (found_at b.place line.number (count_faults 16_777_216 TooManyEdges b) ++ [])) ++ []) (count_none 4_194_304 TooManyVertices a p low)
    ∙ ap (λ fs. (found_at b.place line.number fs ++ []) ++ []) (count_none 16_777_216 TooManyEdges b q high)

-- The lines.

all_kept : (lines : List Line) (rows : List (List ℕ)) → Reads lines rows → filter is_kept lines ≡ lines
all_kept [] rows h = refl
all_kept (line ∷ lines) [] h = absurd h
all_kept (line ∷ lines) (row ∷ rows) h =
    ap (λ (b : Bool). if b then line ∷ filter is_kept lines else filter is_kept lines) (not_from_false line.is_comment h.0.0)
    ∙ ap (λ ls. line ∷ ls) (all_kept lines rows h.1)

-- the lines have no fault, and this graph
record IsAccepted (end count : ℕ) (lines : List Line) (graph : Graph) : Type 0 where
  pub no_fault : file_findings end count lines ≡ []
  pub same_graph : edge_list lines ≡ graph
  pub same_lines : from_header lines ≡ lines

-- the faults, from those of the header's line, the header and the number of vertex lines
abbrev findings_at : ℕ → ℕ → List Line → List Finding → Header → ℕ → List Finding
findings_at end count lines fs header k = fs ++ body_findings header 1 k [] lines ++ end_findings header end count (vertex_lines header 1 k lines)

abbrev graph_at : List Line → Header → ℕ → Graph
graph_at lines header k = record { vertices = header.vertices; edges = edges_of header.vertices (all_entries (vertex_lines header 1 k lines)) }

abbrev graph : ℕ → List Edge → Graph
graph n edges = record { vertices = n; edges = edges }

accepted_by : (n m end count : ℕ) (line : Line) (a b : Piece) (lines : List Line) (rows : List (List ℕ)) → IsAnnounced n m rows → Reads lines rows
    → sum_by length rows ≤ 2_000_000 → is_number a.bytes ≡ true → is_number b.bytes ≡ true → value a ≡ n → value b ≡ m
    → IsAccepted end count (header_line line a b ∷ lines) (graph_of_rows n rows)
accepted_by n m end count line a b lines rows is h short p q n_is m_is =
    let few : n ≤ 1000 = is.few in
    let sum : sum_by length rows ≡ 2 * m = is.entries in
    let s : Sound n 1 rows = sound n rows is.one_for_each is.adjacency in
    let header : header_of (a ∷ b ∷ []) ≡ plain_header n m = ap (λ (x : ℕ). plain_header x (value b)) n_is ∙ ap (λ (y : ℕ). plain_header n y) m_is in
    let head = header_none line a b p q (omega arith) (omega arith) in
    let body = body_none n m 1 lines rows [] h s (omega arith) in
    let tail = end_none_plain n m end count lines rows h is.one_for_each s is.adjacency sum in
    record {
      no_fault = ap (λ fs. findings_at end count lines fs (header_of (a ∷ b ∷ [])) (value a)) head
          ∙ ap (λ (h : Header). findings_at end count lines [] h h.vertices) header
          ∙ subst (λ (k : ℕ). findings_at end count lines [] (plain_header n m) k ≡ []) is.one_for_each
          (ap (λ fs. fs ++ end_findings (plain_header n m) end count (plain_lines n m 1 rows lines)) body ∙ tail);
      same_graph = ap (λ (h : Header). graph_at lines h h.vertices) header
          ∙ subst (λ (k : ℕ). graph_at lines (plain_header n m) k ≡ graph_of_rows n rows) is.one_for_each
          (ap (λ es. graph n (edges_of n es)) (entries_of_lines n m 1 lines rows h) ∙ ap (λ es. graph n es) (plain_edges n rows is.one_for_each s));
      same_lines = refl;
    }

-- lines with these numbers have no fault, and the graph of the rows after the header
accepted : (n m end count : ℕ) (lines : List Line) (rows : List (List ℕ)) → IsAnnounced n m rows → Reads lines ((n ∷ m ∷ []) ∷ rows)
    → sum_by length rows ≤ 2_000_000 → IsAccepted end count lines (graph_of_rows n rows)
accepted n m end count [] rows is h short = absurd h
accepted n m end count (line ∷ lines) rows is h short =
    let w : IsHeader line.words n m = two_words line.words n m h.0.1 in
    subst (λ ws. IsAccepted end count (record { number = line.number; is_comment = line.is_comment; words = ws; place = line.place } ∷ lines) (graph_of_rows n rows)) w.words_are
    (accepted_by n m end count line w.first w.second lines rows is h.1 short w.first_number w.second_number w.first_is w.second_is)

-- The text.

not_too_long : (text : List ℕ) → length text ≤ 1_048_576 → too_long text ≡ []
not_too_long text h =
    ap (λ (b : Bool). found_at (suc (2 ^ 33)) (suc (length (filter is_line_feed (take (2 ^ 33) text)))) (where_true b InputTooLong))
    (le-ltb (2 ^ 33) (length text) (omega arith))

abbrev outcome : List Finding → Graph → Result Graph Fault
outcome fs g = elim (first fs) [ Some f ↦ Err (fault_of f) | None ↦ Ok g ]

-- every text of the first form is accepted, with its graph
pub first_form : LawOfFirstForm
unfolding graph_of
first_form text graph form =
    let n : ℕ = form.gives.n in
    let m : ℕ = form.gives.m in
    let rows : List (List ℕ) = form.gives.rows in
    let short : length text ≤ 1_048_576 = form.short in
    let read : rows_of text ≡ Some ((n ∷ m ∷ []) ∷ rows) = form.read ∙ ap Some form.gives.parts in
    let few : sum_by length ((n ∷ m ∷ []) ∷ rows) ≤ suc (length text) = few_numbers text ((n ∷ m ∷ []) ∷ rows) read in
    let sum : sum_by length ((n ∷ m ∷ []) ∷ rows) ≡ 2 + sum_by length rows = sum_by-cons (λ (row : List ℕ). length row) (n ∷ m ∷ []) rows in
    let end : ℕ = suc (length text) in
    let count : ℕ = length (lines text) in
    let reads : Reads (lines text) ((n ∷ m ∷ []) ∷ rows) = read_plain text ((n ∷ m ∷ []) ∷ rows) read in
    let all : filter is_kept (lines text) ≡ lines text = all_kept (lines text) ((n ∷ m ∷ []) ∷ rows) reads in
    let is : IsAccepted end count (lines text) (graph_of_rows n rows) = accepted n m end count (lines text) rows form.gives.announced reads (omega arith) in
    let from : from_header (filter is_kept (lines text)) ≡ lines text = ap from_header all ∙ is.same_lines in
    let none : findings text ≡ [] =
    ap (λ fs. fs ++ file_findings end count (from_header (filter is_kept (lines text)))) (not_too_long text short)
    ∙ ap (λ ls. file_findings end count ls) from ∙ is.no_fault in
    ap (λ fs. outcome fs (edge_list (from_header (filter is_kept (lines text))))) none
    ∙ ap (λ (g : Graph). Ok g) (ap edge_list from ∙ is.same_graph ∙ sym form.gives.graph_is)
