-- Which fault of a neighbour is the first.
use Rattle.std.proofs.Common.{◌≡◌, ◌≢◌, ◌<◌, ◌≤◌, ◌⊎◌, ℕ, suc, Bool, true, false, ◌||◌, List, [], ◌++◌, length, map, ◌+◌, ◌*◌, not, refl, ap, sym, ◌∙◌, inl, inr, arith}
use Rattle.std.specs.Prelude.{◌==◌, nat_lt, nat_le}
use Rattle.std.specs.List.Sorted.{IsPermutation}
use Rattle.std.proofs.lemmas.List.Sorted.{length_permutation}
use Rattle.std.specs.List.{filter}
use Rattle.std.proofs.lemmas.Bool.{cases_eq, lt-leb, ne_eqb}
use Rattle.std.proofs.lemmas.Bool.Decides.{nat_tests}
use Rattle.cut_definitions.proofs.ListLaws.{mapped_length}
use Rattle.metis_reader.specs.declared.fault.FaultKind.{FaultKind}
use Rattle.metis_reader.specs.declared.fault.FaultKind.TheVariants.{TooManyEntries, NeighbourRange, SelfLoop}
use Rattle.metis_reader.specs.declared.body.Body.{Body}
use Rattle.metis_reader.specs.Text.{Piece}
use Rattle.metis_reader.specs.Profile.{Header, Entry, where_true, value, not_a_number, neighbour_faults}
use Rattle.metis_reader.specs.File.{VertexLine, edge_of}
use Rattle.metis_reader.specs.Machine.{vertex}
use Rattle.metis_reader.specs.Bodies.{CanEnter, vertex_of, entry_count, greater_of, lesser_of}
use Rattle.metis_reader.specs.Shown.{BodyShows, BeginsWith, is_upward, mirrored}
use Rattle.metis_reader.proofs.Counts.{entry_counts}

abbrev pub faults_of : List FaultKind → Bool → Bool → Bool → List FaultKind
faults_of w a b c = w ++ where_true a TooManyEntries ++ where_true b NeighbourRange ++ where_true c SelfLoop

pub too_many : (w : List FaultKind) (a b c : Bool) → w ≡ [] → a ≡ true → BeginsWith TooManyEntries (faults_of w a b c)
too_many w a b c e t = rw (e, t) (where_true b NeighbourRange ++ where_true c SelfLoop, refl)

pub out_of_range : (w : List FaultKind) (a b c : Bool) → w ≡ [] → a ≡ false → b ≡ true → BeginsWith NeighbourRange (faults_of w a b c)
out_of_range w a b c e f t = rw (e, f, t) (where_true c SelfLoop, refl)

pub self_loop : (w : List FaultKind) (a b c : Bool) → w ≡ [] → a ≡ false → b ≡ false → c ≡ true → BeginsWith SelfLoop (faults_of w a b c)
self_loop w a b c e f g t = rw (e, f, g, t) ([], refl)

pub no_fault : (w : List FaultKind) (a b c : Bool) → w ≡ [] → a ≡ false → b ≡ false → c ≡ false → faults_of w a b c ≡ []
no_fault w a b c e f g h = rw (e, f, g, h) refl

pub outside : (v n : ℕ) → (v ≡ 0) ⊎ (n < v) → (v == 0 || nat_lt n v) ≡ true
outside v n h = grind (arith, nat_tests)

pub inside : (v n : ℕ) → v ≢ 0 → v ≤ n → (v == 0 || nat_lt n v) ≡ false
inside v n h k = grind (arith, nat_tests)

pub record Sizes (b : Body) (header : Header) (done : List VertexLine) (all : List Entry) : Type 0 where
  pub vertices : header.vertices ≡ b.header.vertices
  pub edges : header.edges ≡ b.header.edges
  pub entries : length all ≡ entry_count b
  pub vertex : vertex done ≡ vertex_of b

-- the body has as many entries as were read
kept_entries : (b : Body) (all : List Entry) → IsPermutation (map edge_of (filter is_upward all)) (greater_of b)
    → IsPermutation (map mirrored (filter (λ e. not (is_upward e)) all)) (lesser_of b) → length all ≡ entry_count b
kept_entries b all greater lesser =
    let up : length (greater_of b) ≡ length (map edge_of (filter is_upward all)) = length_permutation _ _ greater in
    let down : length (lesser_of b) ≡ length (map mirrored (filter (λ e. not (is_upward e)) all)) = length_permutation _ _ lesser in
    let counts = entry_counts all in
    let counted : b.entries ≡ length (greater_of b) + length (lesser_of b) = b.counted in
    omega arith

pub sizes : (b : Body) (header : Header) (done : List VertexLine) (all : List Entry) → BodyShows b header done all → Sizes b header done all
sizes b header done all shows = record {
  vertices = sym (ap (λ (h : Header). h.vertices) shows.same_header);
  edges = sym (ap (λ (h : Header). h.edges) shows.same_header);
  entries = kept_entries b all shows.greater shows.lesser;
  vertex = ap (λ n. suc n) (sym (ap length shows.numbers ∙ mapped_length _ done));
}

-- a word that is a number which an entry may name has no fault
pub no_neighbour_fault : (b : Body) (header : Header) (done : List VertexLine) (all : List Entry) (v : Piece) (n : ℕ) → BodyShows b header done all → CanEnter b n → not_a_number v ≡ [] → n ≡ value v → neighbour_faults header (vertex done) all v ≡ []
no_neighbour_fault b header done all v n shows can none same =
    let size : Sizes b header done all = sizes b header done all shows in
    let some : value v ≢ 0 = omega (arith, can.from_one) in
    let within : value v ≤ header.vertices = omega (arith, can.to_n, size.vertices) in
    let room : length all < 2 * header.edges = omega (arith, can.room, size.entries, size.edges) in
    let other : value v ≢ vertex done = λ e. can.is_other (omega (arith, size.vertex)) in
    no_fault (not_a_number v) (nat_le (2 * header.edges) (length all)) (value v == 0 || nat_lt header.vertices (value v)) (value v == vertex done)
    none (lt-leb _ _ room) (inside _ _ some within) (ne_eqb _ _ other)

-- a number that might be a neighbour, and can't be one, is the vertex itself
own_by : (b : Body) (value own : ℕ) → (value ≡ own) ⊎ (value ≡ own → ⊥) → 1 ≤ value → value ≤ b.header.vertices → own ≡ vertex_of b → entry_count b < 2 * b.header.edges → (CanEnter b value → ⊥) → value ≡ own
own_by b value own (inl same) from to is room barred = same
own_by b value own (inr other) from to is room barred = absurd (barred (record { from_one = from; to_n = to; is_other = λ e. other (e ∙ sym is); room = room }))

pub own_vertex : (b : Body) (header : Header) (done : List VertexLine) (all : List Entry) (value : ℕ) → Sizes b header done all → 1 ≤ value → value ≤ b.header.vertices → entry_count b < 2 * b.header.edges
    → (CanEnter b value → ⊥) → value ≡ vertex done
own_vertex b header done all value size from to room barred = own_by b value (vertex done) (cases_eq value (vertex done)) from to size.vertex room barred
