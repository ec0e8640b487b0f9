-- What is due at the start of a vertex line.
use Rattle.std.proofs.Common.{◌≡◌, ◌<◌, ◌≤◌, ℕ, zero, suc, ◌+◌, Bool, true, false, List, [], ◌∷◌, ◌++◌, length, refl, ap, sym, ◌∙◌, subst, arith, length-append}
use Rattle.std.specs.Prelude.{if◌then◌else◌}
use Rattle.std.specs.List.Sorted.{IsPermutation}
use Rattle.std.proofs.lemmas.List.Sorted.{IsPermutation-refl}
use Rattle.std.proofs.lemmas.Bool.{le-leb, lt-leb}
use Rattle.cut_definitions.specs.declared.edge_list.Edge.{Edge}
use Rattle.cut_definitions.proofs.ListLaws.{append_none}
use Rattle.metis_reader.specs.declared.header.Header as kept
use Rattle.metis_reader.specs.declared.body.Body.{Body}
use Rattle.metis_reader.specs.declared.due.Due.TheVariants.{NoWord}
use Rattle.metis_reader.specs.Text.{Piece}
use Rattle.metis_reader.specs.Profile.{Header, Entry, header_of, format_of, weights_of, has_flag}
use Rattle.metis_reader.specs.File.{VertexLine, all_entries}
use Rattle.metis_reader.specs.Machine.{at_line, before, end_vertex}
use Rattle.metis_reader.specs.Dues.{after_leading_of}
use Rattle.metis_reader.specs.Bodies.{greater_of, lesser_of, first_due_of, header_view, leading_of, sizes_of}
use Rattle.metis_reader.specs.Shown.{BodyShows, HeaderShows, Keeps, due_of}
use Rattle.metis_reader.proofs.Faults.{Sizes, sizes}
use Rattle.metis_reader.proofs.MachineLaw.{all_entries-push}

leading_is : (s t f g : Bool) (w ws : ℕ) → s ≡ t → f ≡ g → w ≡ (if f then ws else 1) → (if s then 1 else 0) + (if f then w else 0) ≡ (if t then 1 else 0) + (if g then ws else 0)
leading_is s t true g w ws e e' h = rw (← e) (rw (← e') (ap (λ n. (if s then 1 else 0) + n) h))
leading_is s t false g w ws e e' h = rw (← e) (rw (← e') refl)

record_is : (n m k s : ℕ) (b : Bool) (h : Header) → n ≡ h.vertices → m ≡ h.edges → k ≡ h.leading → s ≡ h.sizes → b ≡ h.has_edge_weights
    → record { vertices = n; edges = m; leading = k; sizes = s; has_edge_weights = b } ≡ h
record_is n m k s b h en em ek es eb = rw (en, em, ek, es, eb) refl

pub header_is : (h : kept.Header) (seen : List Piece) → HeaderShows h seen → header_view h ≡ header_of seen
header_is h seen shows =
    record_is h.vertices h.edges (leading_of h) (sizes_of h) h.format.has_edge_weights (header_of seen) shows.vertices shows.edges
    (leading_is h.format.has_sizes (has_flag 2 (format_of seen)) h.format.has_vertex_weights (has_flag 1 (format_of seen)) h.weights (weights_of seen)
    shows.flags.sizes shows.flags.weights shows.weights)
    (ap (λ (b : Bool). if b then 1 else 0) shows.flags.sizes)
    shows.flags.edges

due_all : (b : Body) → b.header.vertices ≤ length b.numbers.items → first_due_of b ≡ NoWord
due_all b h = rw (le-leb _ _ h) refl

due_more : (b : Body) → length b.numbers.items < b.header.vertices → first_due_of b ≡ after_leading_of (leading_of b.header)
due_more b h = rw (lt-leb _ _ h) refl

pub line_starts : (h : kept.Header) (b : Body) (header : Header) (done : List VertexLine) (left : ℕ)
    → BodyShows b header done (before done []) → length done + left ≡ header.vertices → b.mass ≡ 1
    → (first_due_of b ≡ due_of (at_line header done left)) × Keeps h b (at_line header done left)
line_starts h b header done zero shows lines mass =
    let size : Sizes b header done (before done []) = sizes b header done (before done []) shows in
    let all : b.header.vertices ≤ length b.numbers.items = omega arith in
    (due_all b all, record { body = shows; lines = lines; same_mass = mass })
line_starts h b header done (suc left) shows lines mass =
    let size : Sizes b header done (before done []) = sizes b header done (before done []) shows in
    let more : length b.numbers.items < b.header.vertices = omega arith in
    (due_more b more ∙ ap (λ (h : Header). after_leading_of h.leading) shows.same_header, record { body = shows; lines = lines; same_mass = mass })

pub next_line : (h : kept.Header) (b : Body) (header : Header) (done : List VertexLine) (mass : ℕ) (here : List Entry) (left number : ℕ)
    → BodyShows b header (end_vertex done number mass here) (before done here) → length done + suc left ≡ header.vertices → b.mass ≡ 1
    → (first_due_of b ≡ due_of (at_line header (end_vertex done number mass here) left)) × Keeps h b (at_line header (end_vertex done number mass here) left)
next_line h b header done mass here left number shows lines one =
    let v : VertexLine = record { number = number; mass = mass; entries = here } in
    let same : before (done ++ v ∷ []) [] ≡ before done here = append_none (all_entries (done ++ v ∷ [])) ∙ all_entries-push done v in
    let count : length (done ++ v ∷ []) + left ≡ header.vertices = omega (arith, length-append done (v ∷ [])) in
    line_starts h b header (done ++ v ∷ []) left (subst (λ all. BodyShows b header (done ++ v ∷ []) all) (sym same) shows) count one

nothing : (xs : List Edge) → xs ≡ [] → IsPermutation [] xs
nothing xs is = subst (λ xs. IsPermutation [] xs) (sym is) (IsPermutation-refl [])

pub first_line : (h : kept.Header) (b : Body) (header : Header) → header_view b.header ≡ header → b.numbers.items ≡ [] → greater_of b ≡ [] → lesser_of b ≡ [] → b.total ≡ 0 → b.masses.items ≡ [] → b.mass ≡ 1
    → (first_due_of b ≡ due_of (at_line header [] header.vertices)) × Keeps h b (at_line header [] header.vertices)
first_line h b header view numbers greater lesser total masses mass =
    line_starts h b header [] header.vertices (record { same_header = view; numbers = numbers; masses = masses; greater = nothing (greater_of b) greater; lesser = nothing (lesser_of b) lesser; total = λ has. total }) (omega arith) mass
