-- What the parser keeps of a reading.
use Rattle.std.specs.Prelude.{◌≡◌, ℕ, suc, ◌+◌, Bool, true, not, nat_lt, if◌then◌else◌, List, [], ◌∷◌, length, map}
use Rattle.std.specs.List.{filter}
use Rattle.std.specs.List.Sorted.{IsPermutation}
use Rattle.cut_definitions.specs.declared.edge_list.Edge.{Edge}
use Rattle.metis_reader.specs.declared.fault.FaultKind.{FaultKind}
use Rattle.metis_reader.specs.declared.fault.ReadRefusal.{ReadRefusal}
use Rattle.metis_reader.specs.declared.fault.ReadRefusal.TheVariants.{NoMemory, Fault}
use Rattle.metis_reader.specs.declared.due.Due.{Due}
use Rattle.metis_reader.specs.declared.due.Due.TheVariants.{Vertices, Edges, Format, Constraints, NoHeaderWord, EdgeWeight, NoWord}
use Rattle.metis_reader.specs.declared.header.Header as kept
use Rattle.metis_reader.specs.declared.body.Body.{Body}
use Rattle.metis_reader.specs.Text.{Piece}
use Rattle.metis_reader.specs.Profile.{Header, Entry, value, total, value_or_zero, after_first, format_of, weights_of}
use Rattle.metis_reader.specs.File.{VertexLine, all_masses, edge_of}
use Rattle.metis_reader.specs.Machine.{State, AtHeader, InLine, AtWeight, After, before, line_faults}
use Rattle.metis_reader.specs.Words.{HasFlags}
use Rattle.metis_reader.specs.Dues.{after_leading_of}
use Rattle.metis_reader.specs.Bodies.{header_view, greater_of, lesser_of}

-- these faults begin with this one
abbrev pub BeginsWith : FaultKind → List FaultKind → Type 0
BeginsWith kind kinds = (others : List FaultKind) × (kinds ≡ kind ∷ others)

abbrev pub is_upward : Entry → Bool
is_upward e = nat_lt e.from e.to

-- the edge of an entry, seen from its other end
abbrev pub mirrored : Entry → Edge
mirrored e = record { u = e.to; v = e.from; w = e.weight }

-- the body keeps the lines of some vertices, and all entries up to here
pub record BodyShows (b : Body) (header : Header) (done : List VertexLine) (all : List Entry) : Type 0 where
  pub same_header : header_view b.header ≡ header
  pub numbers : b.numbers.items ≡ map (λ (v : VertexLine). v.number) done
  pub masses : b.masses.items ≡ all_masses done
  pub greater : IsPermutation (map edge_of (filter is_upward all)) (greater_of b)
  pub lesser : IsPermutation (map mirrored (filter (λ e. not (is_upward e)) all)) (lesser_of b)
  pub total : header.has_edge_weights ≡ true → b.total ≡ total all

-- what is kept of the header's words up to here
pub record HeaderShows (h : kept.Header) (seen : List Piece) : Type 0 where
  pub vertices : h.vertices ≡ value_or_zero seen
  pub edges : h.edges ≡ value_or_zero (after_first seen)
  pub flags : HasFlags h.format (format_of seen)
  pub weights : h.weights ≡ (if h.format.has_vertex_weights then weights_of seen else 1)

abbrev pub header_due : List Piece → Due
header_due [] = Vertices
header_due (n ∷ []) = Edges
header_due (n ∷ m ∷ []) = Format
header_due (n ∷ m ∷ f ∷ []) = Constraints
header_due (n ∷ m ∷ f ∷ c ∷ words) = NoHeaderWord

pub record LineShows (b : Body) (header : Header) (done : List VertexLine) (mass : ℕ) (here : List Entry) (left : ℕ) : Type 0 where
  pub body : BodyShows b header done (before done here)
  pub lines : length done + left ≡ header.vertices
  pub same_mass : b.mass ≡ mass

abbrev pub due_of : State → Due
due_of (AtHeader seen) = header_due seen
due_of (InLine header done mass here leading left) = after_leading_of leading
due_of (AtWeight header done mass here neighbour left) = EdgeWeight (value neighbour)
due_of (After header done) = NoWord

abbrev pub Keeps : kept.Header → Body → State → Type 0
Keeps h b (AtHeader seen) = HeaderShows h seen
Keeps h b (InLine header done mass here leading left) = LineShows b header done mass here (suc left)
Keeps h b (AtWeight header done mass here neighbour left) = LineShows b header done mass here (suc left) × (header.has_edge_weights ≡ true)
Keeps h b (After header done) = LineShows b header done 1 [] 0

abbrev pub Shows : Due → kept.Header → Body → State → Type 0
Shows due h b state = (due ≡ due_of state) × Keeps h b state

-- the end of the header's line is met
abbrev pub EndsHeader : State → Type 0
EndsHeader (AtHeader (n ∷ m ∷ words)) = Unit {0}
EndsHeader _ = ⊥

-- a refusal at the end of the line of this number: by the first fault, or for want of memory at the header's end
abbrev pub RefusedBy : ReadRefusal → State → ℕ → Type 0
RefusedBy NoMemory s line = EndsHeader s
RefusedBy (Fault f) s line = (f.line ≡ line) × BeginsWith f.kind (line_faults s)
