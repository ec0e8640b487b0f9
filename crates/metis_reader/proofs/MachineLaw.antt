-- Word by word and line by line a reading finds exactly the faults of the file.
use Rattle.std.proofs.Common.{◌≡◌, ℕ, zero, suc, Bool, true, false, List, [], ◌∷◌, ◌++◌, length, drop, refl, ap, sym, ◌∙◌, append_assoc, arith, nat_lt}
use Rattle.std.proofs.lemmas.Grind.{common_steps}
use Rattle.std.proofs.lemmas.Bool.Decides.{nat_tests}
use Rattle.cut_definitions.proofs.ListLaws.{append_none}
use Rattle.metis_reader.specs.declared.fault.FaultKind.TheVariants.{HeaderWords, TooManyVertices, TooManyEdges}
use Rattle.metis_reader.specs.Text.{Piece, Line}
use Rattle.metis_reader.specs.Profile.{Finding, Header, Entry, found_at, where_true, value, entries, line_entries, first_weight, header_of, header_judges, format_of, count_faults, format_faults, weights_faults, has_flag, judged, vertex_findings, entry_findings, not_a_number, extra_words, extra_findings, neighbour_faults, edge_weight_faults}
use Rattle.metis_reader.specs.File.{VertexLine, all_entries, vertex_lines, body_findings, end_findings, file_findings, from_header}
use Rattle.metis_reader.specs.Machine.{State, AtHeader, InLine, After, vertex, before, after_neighbour, with_entry, with_mass, word_faults, line_faults, after_line, at_line, end_vertex, line_state, line_findings, lines_findings}
use Rattle.metis_reader.proofs.Masses.{mass_from, first_mass}

pub all_entries-push : (done : List VertexLine) (v : VertexLine) → all_entries (done ++ v ∷ []) ≡ all_entries done ++ v.entries
all_entries-push [] v = append_none v.entries
all_entries-push (d ∷ done) v = ap (λ es. d.entries ++ es) (all_entries-push done v) ∙ sym (append_assoc d.entries (all_entries done) v.entries)

-- The vertex lines.

in_line : (has : Bool) (header : Header) (done : List VertexLine) (mass : ℕ) (here : List Entry) (left number end : ℕ) (words : List Piece)
    → header.has_edge_weights ≡ has
    → line_findings (InLine header done mass here zero left) number end words
    ≡ entry_findings header has (vertex done) (before done here) number end words
in_line has header done mass here left number end [] e = refl
in_line false header done mass here left number end (v ∷ words) e =
    let faults = found_at v.place number (neighbour_faults header (vertex done) (before done here) v) in
    ap (λ has. faults ++ line_findings (after_neighbour has header done mass here left v) number end words) e
    ∙ ap (λ found. faults ++ found) (in_line false header done mass (with_entry done here v 1) left number end words e)
    ∙ ap (λ before. faults ++ entry_findings header false (vertex done) before number end words)
    (sym (append_assoc (all_entries done) here (record { from = vertex done; to = value v; weight = 1 } ∷ [])))
in_line true header done mass here left number end (v ∷ []) e =
    let faults = found_at v.place number (neighbour_faults header (vertex done) (before done here) v) in
    ap (λ has. faults ++ line_findings (after_neighbour has header done mass here left v) number end []) e
in_line true header done mass here left number end (v ∷ w ∷ words) e =
    let faults = found_at v.place number (neighbour_faults header (vertex done) (before done here) v) in
    let more = found_at w.place number (edge_weight_faults (before done here) w) in
    ap (λ has. faults ++ line_findings (after_neighbour has header done mass here left v) number end (w ∷ words)) e
    ∙ ap (λ found. faults ++ (more ++ found)) (in_line true header done mass (with_entry done here v (value w)) left number end words e)
    ∙ ap (λ before. faults ++ (more ++ entry_findings header true (vertex done) before number end words))
    (sym (append_assoc (all_entries done) here (record { from = vertex done; to = value v; weight = value w } ∷ [])))
    ∙ sym (append_assoc faults more _)

vertex_line : (header : Header) (done : List VertexLine) (mass : ℕ) (here : List Entry) (leading left number end : ℕ) (words : List Piece)
    → line_findings (InLine header done mass here leading left) number end words
    ≡ vertex_findings header leading (vertex done) (before done here) number end words
vertex_line header done mass here zero left number end words = in_line header.has_edge_weights header done mass here left number end words refl
vertex_line header done mass here (suc leading) left number end [] = refl
vertex_line header done mass here (suc leading) left number end (word ∷ words) =
    ap (λ found. found_at word.place number (not_a_number word) ++ found) (vertex_line header done (with_mass header mass leading word) here leading left number end words)

after_in_line : (has : Bool) (header : Header) (done : List VertexLine) (mass : ℕ) (here : List Entry) (left number : ℕ) (words : List Piece)
    → header.has_edge_weights ≡ has
    → after_line (line_state (InLine header done mass here zero left) words) number
    ≡ at_line header (end_vertex done number mass (here ++ entries has (vertex done) words)) left
after_in_line has header done mass here left number [] e = ap (λ es. at_line header (end_vertex done number mass es) left) (sym (append_none here))
after_in_line false header done mass here left number (v ∷ words) e =
    ap (λ has. after_line (line_state (after_neighbour has header done mass here left v) words) number) e
    ∙ after_in_line false header done mass (with_entry done here v 1) left number words e
    ∙ ap (λ es. at_line header (end_vertex done number mass es) left) (append_assoc here (record { from = vertex done; to = value v; weight = 1 } ∷ []) (entries false (vertex done) words))
after_in_line true header done mass here left number (v ∷ []) e =
    ap (λ has. after_line (line_state (after_neighbour has header done mass here left v) []) number) e
    ∙ ap (λ es. at_line header (end_vertex done number mass es) left) (sym (append_none here))
after_in_line true header done mass here left number (v ∷ w ∷ words) e =
    ap (λ has. after_line (line_state (after_neighbour has header done mass here left v) (w ∷ words)) number) e
    ∙ after_in_line true header done mass (with_entry done here v (value w)) left number words e
    ∙ ap (λ es. at_line header (end_vertex done number mass es) left) (append_assoc here (record { from = vertex done; to = value v; weight = value w } ∷ []) (entries true (vertex done) words))

pub after_vertex_line : (header : Header) (done : List VertexLine) (mass leading left number : ℕ) (words : List Piece)
    → after_line (line_state (InLine header done mass [] leading left) words) number
    ≡ at_line header (end_vertex done number (mass_from header leading mass words) (entries header.has_edge_weights (vertex done) (drop leading words))) left
after_vertex_line header done mass zero left number words = after_in_line header.has_edge_weights header done mass [] left number words refl
after_vertex_line header done mass (suc leading) left number [] = refl
after_vertex_line header done mass (suc leading) left number (word ∷ words) = after_vertex_line header done (with_mass header mass leading word) leading left number words

-- a vertex line, from its start on
pub after_whole_line : (header : Header) (done : List VertexLine) (left : ℕ) (line : Line)
    → after_line (line_state (InLine header done 1 [] header.leading left) line.words) line.number
    ≡ at_line header (end_vertex done line.number (first_weight header line.words) (line_entries header (vertex done) line)) left
after_whole_line header done left line =
    after_vertex_line header done 1 header.leading left line.number line.words
    ∙ ap (λ m. at_line header (end_vertex done line.number m (line_entries header (vertex done) line)) left) (first_mass header line.words)

-- Behind the vertex lines.

after_all : (header : Header) (done : List VertexLine) (number end : ℕ) (words : List Piece)
    → line_findings (After header done) number end words ≡ extra_words number words
after_all header done number end [] = refl
after_all header done number end (word ∷ words) =
    ap (λ found. found_at word.place number (word_faults (After header done) word) ++ found) (after_all header done number end words)

pub still_after : (header : Header) (done : List VertexLine) (number : ℕ) (words : List Piece)
    → after_line (line_state (After header done) words) number ≡ After header done
still_after header done number [] = refl
still_after header done number (word ∷ words) = still_after header done number words

extra_lines : (header : Header) (done : List VertexLine) (end count : ℕ) (lines : List Line)
    → lines_findings (After header done) end count lines ≡ extra_findings lines ++ end_findings header end count done
extra_lines header done end count [] = refl
extra_lines header done end count (line ∷ lines) =
    ap (λ found. found ++ lines_findings (after_line (line_state (After header done) line.words) line.number) end count lines) (after_all header done line.number line.place line.words)
    ∙ ap (λ state. extra_words line.number line.words ++ lines_findings state end count lines) (still_after header done line.number line.words)
    ∙ ap (λ found. extra_words line.number line.words ++ found) (extra_lines header done end count lines)
    ∙ sym (append_assoc (extra_words line.number line.words) (extra_findings lines) (end_findings header end count done))

abbrev body : Header → ℕ → ℕ → List VertexLine → ℕ → List Line → List Finding
body header end count done left lines =
    body_findings header (vertex done) left (all_entries done) lines
    ++ end_findings header end count (done ++ vertex_lines header (vertex done) left lines)

pub vertex_push : (done : List VertexLine) (v : VertexLine) → vertex (done ++ v ∷ []) ≡ suc (vertex done)
vertex_push [] v = refl
vertex_push (d ∷ done) v = ap (λ n. suc n) (vertex_push done v)

body_lines : (header : Header) (end count : ℕ) (done : List VertexLine) (left : ℕ) (lines : List Line)
    → lines_findings (at_line header done left) end count lines ≡ body header end count done left lines
body_lines header end count done zero lines =
    extra_lines header done end count lines
    ∙ ap (λ all. extra_findings lines ++ end_findings header end count all) (sym (append_none done))
body_lines header end count done (suc left) [] = ap (λ all. end_findings header end count all) (sym (append_none done))
body_lines header end count done (suc left) (line ∷ lines) =
    let v : VertexLine = record { number = line.number; mass = first_weight header line.words; entries = line_entries header (vertex done) line } in
    let first : List Entry → List Finding = λ before. vertex_findings header header.leading (vertex done) before line.number line.place line.words in
    let rest : State → List Finding = λ state. lines_findings state end count lines in
    ap (λ found. found ++ rest (after_line (line_state (InLine header done 1 [] header.leading left) line.words) line.number))
    (vertex_line header done 1 [] header.leading left line.number line.place line.words)
    ∙ ap (λ before. first before ++ rest (after_line (line_state (InLine header done 1 [] header.leading left) line.words) line.number)) (append_none (all_entries done))
    ∙ ap (λ state. first (all_entries done) ++ rest state) (after_whole_line header done left line)
    ∙ ap (λ found. first (all_entries done) ++ found) (body_lines header end count (done ++ v ∷ []) left lines)
    ∙ ap (λ n. first (all_entries done) ++ (body_findings header n left (all_entries (done ++ v ∷ [])) lines
    ++ end_findings header end count ((done ++ v ∷ []) ++ vertex_lines header n left lines))) (vertex_push done v)
    ∙ ap (λ before. first (all_entries done) ++ (body_findings header (suc (vertex done)) left before lines
    ++ end_findings header end count ((done ++ v ∷ []) ++ vertex_lines header (suc (vertex done)) left lines))) (all_entries-push done v)
    ∙ ap (λ all. first (all_entries done) ++ (body_findings header (suc (vertex done)) left (all_entries done ++ v.entries) lines
    ++ end_findings header end count all)) (append_assoc done (v ∷ []) (vertex_lines header (suc (vertex done)) left lines))
    ∙ sym (append_assoc (first (all_entries done)) (body_findings header (suc (vertex done)) left (all_entries done ++ v.entries) lines) _)

-- The header.

abbrev header_end : ℕ → ℕ → List Piece → List Finding
header_end number end words = found_at end number (where_true (nat_lt (length words) 2) HeaderWords)

further_words : (n m f c : Piece) (seen : List Piece) (number end : ℕ) (words : List Piece)
    → line_findings (AtHeader (n ∷ m ∷ f ∷ c ∷ seen)) number end words ≡ judged number [] words
further_words n m f c seen number end [] = refl
further_words n m f c seen number end (word ∷ words) =
    ap (λ found. found_at word.place number (HeaderWords ∷ []) ++ found) (further_words n m f c (seen ++ word ∷ []) number end words)

header_line : (number end : ℕ) (words : List Piece)
    → line_findings (AtHeader []) number end words
    ≡ judged number (header_judges (format_of words)) words ++ found_at end number (line_faults (AtHeader words))
header_line number end [] = refl
header_line number end (n ∷ []) = grind (arith, common_steps)
header_line number end (n ∷ m ∷ []) = grind (arith, common_steps)
header_line number end (n ∷ m ∷ f ∷ []) = grind (arith, common_steps)
header_line number end (n ∷ m ∷ f ∷ c ∷ []) = grind (arith, common_steps)
header_line number end (n ∷ m ∷ f ∷ c ∷ word ∷ words) =
    let start : List Finding → List Finding = λ found.
    found_at n.place number (count_faults 4_194_304 TooManyVertices n) ++ (found_at m.place number (count_faults 16_777_216 TooManyEdges m)
    ++ (found_at f.place number (format_faults f) ++ (found_at c.place number (weights_faults (has_flag 1 f.bytes) c)
    ++ (found_at word.place number (HeaderWords ∷ []) ++ found)))) in
    ap start (further_words n m f c (word ∷ []) number end words)
    ∙ sym (append_none (start (judged number [] words)))

pub seen_words : (seen words : List Piece) → line_state (AtHeader seen) words ≡ AtHeader (seen ++ words)
seen_words seen [] = ap (λ ws. AtHeader ws) (sym (append_none seen))
seen_words seen (word ∷ words) = seen_words (seen ++ word ∷ []) words ∙ ap (λ ws. AtHeader ws) (append_assoc seen (word ∷ []) words)

enough_words : (n m : Piece) (words : List Piece) → nat_lt (length (n ∷ m ∷ words)) 2 ≡ false
enough_words n m words = grind (arith, nat_tests)

header_faults : (word : Piece) (words : List Piece) → line_faults (AtHeader (word ∷ words)) ≡ where_true (nat_lt (length (word ∷ words)) 2) HeaderWords
header_faults word [] = refl
header_faults word (m ∷ words) = ap (λ b. where_true b HeaderWords) (sym (enough_words word m words))

lines_from_line : (number : ℕ) (comment : Bool) (words : List Piece) (place end count : ℕ) (lines : List Line)
    → lines_findings (AtHeader []) end count lines ≡ file_findings end count (from_header lines)
    → lines_findings (AtHeader []) end count (record { number = number; is_comment = comment; words = words; place = place } ∷ lines)
    ≡ file_findings end count (from_header (record { number = number; is_comment = comment; words = words; place = place } ∷ lines))
lines_from_line number comment [] place end count lines again = again
lines_from_line number comment (word ∷ words) place end count lines again =
    let all : List Piece = word ∷ words in
    let header : Header = header_of all in
    ap (λ found. found ++ lines_findings (after_line (line_state (AtHeader []) all) number) end count lines) (header_line number place all)
    ∙ ap (λ state. (judged number (header_judges (format_of all)) all ++ found_at place number (line_faults (AtHeader all)))
    ++ lines_findings (after_line state number) end count lines) (seen_words [] all)
    ∙ ap (λ kinds. (judged number (header_judges (format_of all)) all ++ found_at place number kinds)
    ++ lines_findings (at_line header [] header.vertices) end count lines) (header_faults word words)
    ∙ ap (λ found. (judged number (header_judges (format_of all)) all ++ header_end number place all) ++ found)
    (body_lines header end count [] header.vertices lines)
    ∙ sym (append_assoc (judged number (header_judges (format_of all)) all ++ header_end number place all)
    (body_findings header 1 header.vertices [] lines) (end_findings header end count (vertex_lines header 1 header.vertices lines)))

-- the faults of a file are those that a reading finds
pub lines_law : (end count : ℕ) (lines : List Line) → lines_findings (AtHeader []) end count lines ≡ file_findings end count (from_header lines)
lines_law end count [] = refl
lines_law end count (line ∷ lines) = lines_from_line line.number line.is_comment line.words line.place end count lines (lines_law end count lines)
