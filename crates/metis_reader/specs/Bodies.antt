-- What the body keeps, without its place in memory.
use Rattle.std.specs.Prelude.{◌≢◌, ℕ, List, suc, ◌+◌, ◌*◌, ◌++◌, ◌<◌, ◌≤◌, length, nat_le, if◌then◌else◌}
use Rattle.cut_definitions.specs.declared.edge_list.Edge.{Edge}
use Rattle.metis_reader.specs.declared.header.Header.{Header}
use Rattle.metis_reader.specs.declared.body.Body.{Body}
use Rattle.metis_reader.specs.declared.due.Due.{Due}
use Rattle.metis_reader.specs.declared.due.Due.TheVariants.{NoWord}
use Rattle.metis_reader.specs.Dues.{after_leading_of}
use Rattle.metis_reader.specs.declared.waiting.Waiting.{Waiting}
use Rattle.metis_reader.specs.Meeting.{with_met}
use Rattle.metis_reader.specs.Regions.{waiting_from}
use Rattle.metis_reader.specs.Profile as profile

-- how many words come before the vertex weights, and how many before the neighbours
abbrev pub sizes_of : Header → ℕ
sizes_of h = if h.format.has_sizes then 1 else 0

abbrev pub leading_of : Header → ℕ
leading_of h = sizes_of h + (if h.format.has_vertex_weights then h.weights else 0)

-- the header as the definition of a file has it
abbrev pub header_view : Header → profile.Header
header_view h = record {
  vertices = h.vertices;
  edges = h.edges;
  leading = leading_of h;
  sizes = sizes_of h;
  has_edge_weights = h.format.has_edge_weights;
}

abbrev pub vertex_of : Body → ℕ
vertex_of b = suc (length b.numbers.items)

abbrev pub greater_of : Body → List Edge
greater_of b = b.greater.items

abbrev pub waiting_of : Waiting → List Edge
waiting_of w = waiting_from 0 w.owners.items w.weights.items w.packed.items

-- the entries to smaller neighbours, in some order
abbrev pub lesser_of : Body → List Edge
lesser_of b = with_met b.greater.items b.cursors.items (b.lesser.items ++ waiting_of b.waiting)

abbrev pub entry_count : Body → ℕ
entry_count b = b.entries

-- the present vertex line may have a further entry with this neighbour
pub record CanEnter (b : Body) (v : ℕ) : Type 0 where
  pub from_one : 1 ≤ v
  pub to_n : v ≤ b.header.vertices
  pub is_other : v ≢ vertex_of b
  pub room : entry_count b < 2 * b.header.edges

-- what is due at the start of the next line
abbrev pub first_due_of : Body → Due
first_due_of b = if nat_le b.header.vertices (length b.numbers.items) then NoWord else after_leading_of (leading_of b.header)
