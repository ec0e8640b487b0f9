-- The graph of a file, or its first fault.
use Rattle.std.specs.Prelude.{ℕ, zero, suc, ◌-◌, ◌*◌, ◌^◌, Bool, false, not, ◌&&◌, ◌||◌, ◌==◌, nat_lt, nat_le, if◌then◌else◌, List, [], ◌∷◌, ◌++◌, length, take, map, replicate, Option, None, Some, Result, Ok, Err}
use Rattle.std.specs.List.{filter, list_any, flat_map, range_with_len}
use Rattle.cut_definitions.specs.declared.edge_list.Edge.{Edge}
use Rattle.cut_definitions.specs.Graph.{Graph}
use Rattle.metis_reader.specs.declared.fault.Fault.{Fault}
use Rattle.metis_reader.specs.declared.fault.FaultKind.{FaultKind}
use Rattle.metis_reader.specs.declared.fault.FaultKind.TheVariants.{NoHeader, InputTooLong, MissingLines, TooFewEntries, Repeated, Unsymmetric}
use Rattle.metis_reader.specs.Text.{Line, lines, is_line_feed}
use Rattle.metis_reader.specs.Profile.{Finding, Header, Entry, where_true, found_at, header_of, header_findings, vertex_findings, line_entries, first_weight, has_flag, format_of, extra_findings}

-- The masses and the entries of the vertex lines, which are as many as there are vertices or fewer.
pub record VertexLine : Type 0 where
  pub number : ℕ
  pub mass : ℕ
  pub entries : List Entry

abbrev pub vertex_lines : Header → ℕ → ℕ → List Line → List VertexLine
vertex_lines header vertex zero lines = []
vertex_lines header vertex (suc left) [] = []
vertex_lines header vertex (suc left) (line ∷ lines) =
    record { number = line.number; mass = first_weight header line.words; entries = line_entries header vertex line }
    ∷ vertex_lines header (suc vertex) left lines

abbrev pub all_entries : List VertexLine → List Entry
all_entries vertices = flat_map (λ (v : VertexLine). v.entries) vertices

abbrev pub all_masses : List VertexLine → List ℕ
all_masses vertices = map (λ (v : VertexLine). v.mass) vertices

-- The tests of the end of the input. Each reports the first line with its fault, which is that of the smallest vertex.

abbrev pub is_to : Entry → Entry → Bool
is_to d e = d.to == e.to

abbrev pub has_repeat : List Entry → Bool
has_repeat [] = false
has_repeat (e ∷ entries) = list_any (is_to e) entries || has_repeat entries

abbrev pub is_mate : Entry → Entry → Bool
is_mate e d = d.from == e.to && d.to == e.from && d.weight == e.weight

abbrev pub lacks_mate : List Entry → Entry → Bool
lacks_mate all e = not (list_any (is_mate e) all)

-- the kind of the fault, at the first of these lines for which the test holds
abbrev pub first_line : (VertexLine → Bool) → FaultKind → ℕ → List VertexLine → List Finding
first_line test kind end [] = []
first_line test kind end (v ∷ vertices) =
    if test v then record { kind = kind; place = end; line = v.number } ∷ [] else first_line test kind end vertices

abbrev pub end_findings : Header → ℕ → ℕ → List VertexLine → List Finding
end_findings header end count vertices =
    found_at end count (where_true (nat_lt (length vertices) header.vertices) MissingLines)
    ++ found_at end count (where_true (nat_lt (length (all_entries vertices)) (2 * header.edges)) TooFewEntries)
    ++ first_line (λ v. has_repeat v.entries) Repeated end vertices
    ++ first_line (λ v. list_any (lacks_mate (all_entries vertices)) v.entries) Unsymmetric end vertices

-- The faults of the lines after the header that are no comments; the first of them are vertex lines.
abbrev pub body_findings : Header → ℕ → ℕ → List Entry → List Line → List Finding
body_findings header vertex zero before lines = extra_findings lines
body_findings header vertex (suc left) before [] = []
body_findings header vertex (suc left) before (line ∷ lines) =
    vertex_findings header header.leading vertex before line.number line.place line.words
    ++ body_findings header (suc vertex) left (before ++ line_entries header vertex line) lines

-- the lines that are no comments, from the header on, which is the first of them that isn't blank
abbrev pub is_kept : Line → Bool
is_kept line = not line.is_comment

abbrev pub from_header : List Line → List Line
from_header [] = []
from_header (line ∷ lines) = elim line.words [ [] ↦ from_header lines | word ∷ words ↦ line ∷ lines ]

-- the faults of these lines, the first of which is the header, in a text with `count` lines that ends at this place
abbrev pub file_findings : ℕ → ℕ → List Line → List Finding
file_findings end count [] = found_at end count (NoHeader ∷ [])
file_findings end count (line ∷ lines) =
    let header = header_of line.words in
    header_findings line
    ++ body_findings header 1 header.vertices [] lines
    ++ end_findings header end count (vertex_lines header 1 header.vertices lines)

-- byte 2^33 + 1, and the line that it is in
abbrev pub too_long : List ℕ → List Finding
too_long bytes =
    found_at (suc (2 ^ 33)) (suc (length (filter is_line_feed (take (2 ^ 33) bytes)))) (where_true (nat_lt (2 ^ 33) (length bytes)) InputTooLong)

abbrev pub findings : List ℕ → List Finding
findings bytes =
    too_long bytes ++ file_findings (suc (length bytes)) (length (lines bytes)) (from_header (filter is_kept (lines bytes)))

-- the one with the least place, and of those at one place the first
abbrev pub earlier : Finding → Option Finding → Finding
earlier f None = f
earlier f (Some g) = if nat_lt g.place f.place then g else f

abbrev pub first : List Finding → Option Finding
first [] = None
first (f ∷ findings) = Some (earlier f (first findings))

abbrev pub fault_of : Finding → Fault
fault_of f = record { kind = f.kind; line = f.line }

-- Each pair u below v with an entry from u to v is an edge.
abbrev pub is_from : ℕ → ℕ → Entry → Bool
is_from u v e = e.from == u && e.to == v

abbrev pub edge_of : Entry → Edge
edge_of e = record { u = e.from; v = e.to; w = e.weight }

abbrev pub edges_of : ℕ → List Entry → List Edge
edges_of n all =
    flat_map (λ u. flat_map (λ v. map edge_of (filter (is_from u v) all)) (range_with_len (suc u) (n - u))) (range_with_len 1 n)

abbrev pub edge_list : List Line → Graph
edge_list [] = record { vertices = 0; edges = [] }
edge_list (line ∷ lines) =
    let header = header_of line.words in
    record {
      vertices = header.vertices;
      edges = edges_of header.vertices (all_entries (vertex_lines header 1 header.vertices lines));
    }

-- the mass of each vertex: its first weight, or 1 if the format says that vertices have none
abbrev pub mass_list : List Line → List ℕ
mass_list [] = []
mass_list (line ∷ lines) =
    let header = header_of line.words in
    if has_flag 1 (format_of line.words) then all_masses (vertex_lines header 1 header.vertices lines) else replicate header.vertices 1

-- the masses of the vertices of a file without a fault, in the order of the vertices
unfoldable pub masses_of : List ℕ → List ℕ
masses_of bytes = mass_list (from_header (filter is_kept (lines bytes)))

-- the first fault of a file, or its edge list
unfoldable pub graph_of : List ℕ → Result Graph Fault
graph_of bytes = elim (first (findings bytes)) [ Some f ↦ Err (fault_of f) | None ↦ Ok (edge_list (from_header (filter is_kept (lines bytes)))) ]

-- the fault that the bytes fix, whatever follows: the first one, if its place is within them
unfoldable pub fixed : List ℕ → Option Fault
fixed bytes = elim (first (findings bytes)) [ Some f ↦ (if nat_le f.place (length bytes) then Some (fault_of f) else None) | None ↦ None ]
