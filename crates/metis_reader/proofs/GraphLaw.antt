-- The state at the end of the input shows the graph of the file and the masses of its vertices.
use Rattle.std.proofs.Common.{◌≡◌, ◌+◌, ℕ, zero, suc, Bool, true, false, List, [], ◌∷◌, ◌++◌, length, drop, refl, ap, sym, ◌∙◌, subst, append_assoc, arith}
use Rattle.std.specs.List.{filter}
use Rattle.cut_definitions.proofs.ListLaws.{append_none}
use Rattle.metis_reader.specs.declared.line_part.LinePart.{LinePart}
use Rattle.metis_reader.specs.declared.line_part.LinePart.TheVariants.{Start, Words, Comment}
use Rattle.metis_reader.specs.Text.{Piece, Line, lines}
use Rattle.metis_reader.specs.Profile.{Header, Entry, header_of, entries, line_entries, first_weight}
use Rattle.metis_reader.specs.File.{VertexLine, vertex_lines, all_masses, edge_list, from_header, is_kept}
use Rattle.metis_reader.specs.Machine.{State, AtHeader, InLine, AtWeight, After, vertex, at_line, after_line, line_state, final_findings}
use Rattle.metis_reader.specs.Reading.{Reading, start, reading_from, input_end}
use Rattle.metis_reader.specs.Ending.{FromVertex, RowsFrom, graph_shown, IsLineStart, shown_by, state_graph, state_masses, last_line, end_state, line_count}
use Rattle.metis_reader.proofs.Masses.{mass_from, masses_read}
use Rattle.metis_reader.proofs.MachineLaw.{seen_words, after_vertex_line, after_whole_line, still_after, vertex_push}
use Rattle.metis_reader.proofs.StateLaw.{lines_state, state_law}

-- Each line's entries are those of its vertex.

entries_from : (has : Bool) (k : ℕ) (words : List Piece) → FromVertex k (entries has k words)
entries_from has k [] = tt
entries_from false k (v ∷ words) = (refl, entries_from false k words)
entries_from true k (v ∷ []) = tt
entries_from true k (v ∷ w ∷ words) = (refl, entries_from true k words)

rows_push : (k : ℕ) (done : List VertexLine) (v : VertexLine) → RowsFrom k done → FromVertex (k + length done) v.entries → RowsFrom k (done ++ v ∷ [])
rows_push k [] v rows own = (subst (λ n. FromVertex n v.entries) (let e : k + 0 ≡ k = omega arith in e) own, tt)
rows_push k (d ∷ done) v rows own =
    let e : k + suc (length done) ≡ suc k + length done = omega arith in
    (rows.0, rows_push (suc k) done v rows.1 (subst (λ n. FromVertex n v.entries) e own))

start_at : (header : Header) (done : List VertexLine) (left : ℕ) → RowsFrom 1 done → IsLineStart (at_line header done left)
start_at header done zero rows = rows
start_at header done (suc left) rows = (refl, rows)

next_start : (header : Header) (done : List VertexLine) (mass : ℕ) (here : List Entry) (leading left number : ℕ) (words : List Piece) → here ≡ [] → RowsFrom 1 done
    → IsLineStart (after_line (line_state (InLine header done mass here leading left) words) number)
next_start header done mass here leading left number words none rows =
    let es : List Entry = entries header.has_edge_weights (vertex done) (drop leading words) in
    let v : VertexLine = record { number = number; mass = mass_from header leading mass words; entries = es } in
    let own : FromVertex (1 + length done) es = subst (λ n. FromVertex n es) (let e : suc (length done) ≡ 1 + length done = omega arith in e) (entries_from header.has_edge_weights (vertex done) (drop leading words)) in
    subst (λ here. IsLineStart (after_line (line_state (InLine header done mass here leading left) words) number)) (sym none)
    (subst IsLineStart (sym (after_vertex_line header done mass leading left number words)) (start_at header (done ++ v ∷ []) left (rows_push 1 done v rows own)))

line_start : (s : State) (number : ℕ) (words : List Piece) → IsLineStart s → IsLineStart (after_line (line_state s words) number)
line_start (AtHeader []) number [] h = tt
line_start (AtHeader []) number (word ∷ words) h =
    subst (λ s. IsLineStart (after_line s number)) (sym (seen_words [] (word ∷ words))) (start_at (header_of (word ∷ words)) [] (header_of (word ∷ words)).vertices tt)
line_start (AtHeader (seen ∷ more)) number words h = absurd h
line_start (InLine header done mass here leading left) number words h = next_start header done mass here leading left number words h.0 h.1
line_start (AtWeight header done mass here neighbour left) number words h = absurd h
line_start (After header done) number words h = subst IsLineStart (sym (still_after header done number words)) h

lines_start : (s : State) (ls : List Line) → IsLineStart s → IsLineStart (lines_state s ls)
lines_start s [] h = h
lines_start s (line ∷ ls) h = lines_start (after_line (line_state s line.words) line.number) ls (line_start s line.number line.words h)

pub end_start : (bytes : List ℕ) → IsLineStart (end_state (reading_from start bytes))
end_start bytes = subst IsLineStart (sym (state_law bytes)) (lines_start (AtHeader []) (filter is_kept (lines bytes)) tt)

-- The graph and the masses.

after_lines : (header : Header) (done : List VertexLine) (ls : List Line) → lines_state (After header done) ls ≡ After header done
after_lines header done [] = refl
after_lines header done (line ∷ ls) = ap (λ s. lines_state s ls) (still_after header done line.number line.words) ∙ after_lines header done ls

body_shown : {X : Type 0} (none : X) (shown : Header → List VertexLine → X) (header : Header) (done : List VertexLine) (left : ℕ) (ls : List Line)
    → shown_by none shown (lines_state (at_line header done left) ls) ≡ shown header (done ++ vertex_lines header (vertex done) left ls)
body_shown none shown header done zero ls = ap (λ s. shown_by none shown s) (after_lines header done ls) ∙ ap (λ all. shown header all) (sym (append_none done))
body_shown none shown header done (suc left) [] = ap (λ all. shown header all) (sym (append_none done))
body_shown none shown header done (suc left) (line ∷ ls) =
    let v : VertexLine = record { number = line.number; mass = first_weight header line.words; entries = line_entries header (vertex done) line } in
    ap (λ s. shown_by none shown (lines_state s ls)) (after_whole_line header done left line)
    ∙ body_shown none shown header (done ++ v ∷ []) left ls
    ∙ ap (λ n. shown header ((done ++ v ∷ []) ++ vertex_lines header n left ls)) (vertex_push done v)
    ∙ ap (λ all. shown header all) (append_assoc done (v ∷ []) (vertex_lines header (suc (vertex done)) left ls))

-- what these lines show, the header's first
abbrev of_lines : {X : Type 0} → X → (Header → List VertexLine → X) → List Line → X
of_lines none shown [] = none
of_lines none shown (line ∷ ls) = shown (header_of line.words) (vertex_lines (header_of line.words) 1 (header_of line.words).vertices ls)

header_shown : {X : Type 0} (none : X) (shown : Header → List VertexLine → X) (number : ℕ) (comment : Bool) (words : List Piece) (place : ℕ) (ls : List Line)
    → shown_by none shown (lines_state (AtHeader []) ls) ≡ of_lines none shown (from_header ls)
    → shown_by none shown (lines_state (AtHeader []) (record { number = number; is_comment = comment; words = words; place = place } ∷ ls))
    ≡ of_lines none shown (from_header (record { number = number; is_comment = comment; words = words; place = place } ∷ ls))
header_shown none shown number comment [] place ls again = again
header_shown none shown number comment (word ∷ words) place ls again =
    ap (λ s. shown_by none shown (lines_state (after_line s number) ls)) (seen_words [] (word ∷ words))
    ∙ body_shown none shown (header_of (word ∷ words)) [] (header_of (word ∷ words)).vertices ls

lines_shown : {X : Type 0} (none : X) (shown : Header → List VertexLine → X) (ls : List Line)
    → shown_by none shown (lines_state (AtHeader []) ls) ≡ of_lines none shown (from_header ls)
lines_shown none shown [] = refl
lines_shown none shown (line ∷ ls) = header_shown none shown line.number line.is_comment line.words line.place ls (lines_shown none shown ls)

end_shown : {X : Type 0} (none : X) (shown : Header → List VertexLine → X) (bytes : List ℕ)
    → shown_by none shown (end_state (reading_from start bytes)) ≡ of_lines none shown (from_header (filter is_kept (lines bytes)))
end_shown none shown bytes = ap (λ s. shown_by none shown s) (state_law bytes) ∙ lines_shown none shown (filter is_kept (lines bytes))

graph_of_lines : (ls : List Line) → of_lines (record { vertices = 0; edges = [] }) graph_shown ls ≡ edge_list ls
graph_of_lines [] = refl
graph_of_lines (line ∷ ls) = refl

pub end_graph : (bytes : List ℕ) → state_graph (end_state (reading_from start bytes)) ≡ edge_list (from_header (filter is_kept (lines bytes)))
end_graph bytes = end_shown (record { vertices = 0; edges = [] }) graph_shown bytes ∙ graph_of_lines (from_header (filter is_kept (lines bytes)))

masses_of_lines : (ls : List Line) → of_lines [] (λ header done. all_masses done) ls ≡ masses_read ls
masses_of_lines [] = refl
masses_of_lines (line ∷ ls) = refl

pub end_masses : (bytes : List ℕ) → state_masses (end_state (reading_from start bytes)) ≡ masses_read (from_header (filter is_kept (lines bytes)))
end_masses bytes = end_shown [] (λ header done. all_masses done) bytes ∙ masses_of_lines (from_header (filter is_kept (lines bytes)))

-- The end of the input is that of the last line, then the tests.

end_parts_by : (part : LinePart) (s : State) (word : List ℕ) (ended next : ℕ)
    → input_end (record { state = s; part = part; word = word; ended = ended; next = next })
    ≡ last_line (record { state = s; part = part; word = word; ended = ended; next = next })
    ++ final_findings (end_state (record { state = s; part = part; word = word; ended = ended; next = next })) next (line_count (record { state = s; part = part; word = word; ended = ended; next = next }))
end_parts_by Start s word ended next = refl
end_parts_by Words s word ended next = refl
end_parts_by Comment s word ended next = refl

pub end_parts : (r : Reading) → input_end r ≡ last_line r ++ final_findings (end_state r) r.next (line_count r)
end_parts r = end_parts_by r.part r.state r.word r.ended r.next
