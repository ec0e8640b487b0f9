-- What the end of the input finds in the body, and the graph that it shows.
use Rattle.std.proofs.Common.{◌≡◌, ◌≤◌, ◌<◌, ◌*◌, ◌-◌, ◌+◌, ◌++◌, ◌^◌, ℕ, suc, sum_by, false, List, length, reverse, get_or, arith, subst, sym, ap, refl, ◌∙◌, []}
use Rattle.std.specs.List.{All, AllPairs, Contains}
use Rattle.std.specs.List.Sorted.{IsPermutation}
use Rattle.std.proofs.lemmas.List.Elements.{All-append, All-contains}
use Rattle.std.proofs.lemmas.List.Sorted.{IsPermutation-sym, IsPermutation-trans, IsPermutation-reverse, Contains-permutation, All-permutation, sum_by-IsPermutation, length_permutation}
use Rattle.cut_definitions.specs.declared.edge_list.Edge.{Edge}
use Rattle.cut_definitions.specs.Graph.{Graph, IsBefore, IsEdgeWithin, IsEdgeList}
use Rattle.metis_reader.specs.declared.body.Body.{Body}
use Rattle.metis_reader.specs.declared.fault.FaultKind.{FaultKind}
use Rattle.metis_reader.specs.declared.fault.FaultKind.TheVariants.{MissingLines, TooFewEntries, Repeated, Unsymmetric}
use Rattle.metis_reader.specs.Profile.{Header, Entry}
use Rattle.metis_reader.specs.File.{VertexLine, all_entries, end_findings, edges_of}
use Rattle.metis_reader.specs.Ending.{TellsFirst, RowsFrom, graph_shown}
use Rattle.metis_reader.specs.Mates.{IsFirstMismatch, IsOnceAt, IsMatchedAt}
use Rattle.metis_reader.specs.Bodies.{greater_of, lesser_of, waiting_of, entry_count}
use Rattle.metis_reader.specs.Meeting.{met_from}
use Rattle.metis_reader.specs.Measures.{AreMeasures, heaviest_of, lightest_of}
use Rattle.metis_reader.specs.declared.measures.Measures.{Measures}
use Rattle.metis_reader.specs.Shown.{BodyShows}
use Rattle.metis_reader.proofs.Degrees.{all_of_both, measures_are}
use Rattle.metis_reader.proofs.Meeting.{All-met}
use Rattle.metis_reader.proofs.Faults.{Sizes, sizes}
use Rattle.metis_reader.proofs.Times.{once_strict}
use Rattle.metis_reader.proofs.Moved.{repeats_at_moved, once_at_moved, lacks_at_moved, matched_at_moved}
use Rattle.metis_reader.proofs.BothKinds.{upward, downward, entries_once}
use Rattle.metis_reader.proofs.EdgesOf.{edges_are}
use Rattle.metis_reader.proofs.EndLaw.{end_missing, end_few, end_mismatch, end_none}

pub body_missing : (b : Body) (header : Header) (done : List VertexLine) (end count : ℕ) → BodyShows b header done (all_entries done) → length b.numbers.items < b.header.vertices
    → TellsFirst (record { kind = MissingLines; line = count }) (end_findings header end count done)
body_missing b header done end count shows few =
    let size : Sizes b header done (all_entries done) = sizes b header done (all_entries done) shows in
    let same : suc (length done) ≡ suc (length b.numbers.items) = size.vertex in
    end_missing header end count done (omega arith)

pub body_few : (b : Body) (header : Header) (done : List VertexLine) (end count : ℕ) → BodyShows b header done (all_entries done) → b.header.vertices ≤ length b.numbers.items
    → entry_count b < 2 * b.header.edges → TellsFirst (record { kind = TooFewEntries; line = count }) (end_findings header end count done)
body_few b header done end count shows all few =
    let size : Sizes b header done (all_entries done) = sizes b header done (all_entries done) shows in
    let same : suc (length done) ≡ suc (length b.numbers.items) = size.vertex in
    end_few header end count done (omega arith) (omega arith)

-- a mismatch is the same in another order
first_moved : (kind : FaultKind) (x : ℕ) (xs ys us vs : List Edge) → IsPermutation xs ys → IsPermutation us vs → IsFirstMismatch kind x ys vs → IsFirstMismatch kind x xs us
first_moved Repeated x xs ys us vs p q h = (repeats_at_moved x xs ys us vs p q h.0, λ y lt. once_at_moved y xs ys us vs p q (h.1 y lt))
first_moved Unsymmetric x xs ys us vs p q h =
    (lacks_at_moved x xs ys us vs p q h.0, λ y lt. matched_at_moved y xs ys us vs p q (h.1 y lt), λ y. once_at_moved y xs ys us vs p q (h.2 y))
first_moved _ x xs ys us vs p q h = absurd h

pub body_mismatch : (b : Body) (header : Header) (done : List VertexLine) (end count x n : ℕ) (kind : FaultKind) (g l : List Edge) → BodyShows b header done (all_entries done) → RowsFrom 1 done
    → b.header.vertices ≤ length b.numbers.items → 2 * b.header.edges ≤ entry_count b → g ≡ greater_of b → IsPermutation (lesser_of b) l → All (IsEdgeWithin n) l
    → IsFirstMismatch kind x g l → 1 ≤ x → TellsFirst (record { kind = kind; line = get_or b.numbers.items (x - 1) 0 }) (end_findings header end count done)
body_mismatch b header done end count x n kind g l shows rows all entries is_g is_l within first one =
    let size : Sizes b header done (all_entries done) = sizes b header done (all_entries done) shows in
    let same : suc (length done) ≡ suc (length b.numbers.items) = size.vertex in
    let es : List Entry = all_entries done in
    let up : IsPermutation (upward es) g = subst (λ g. IsPermutation (upward es) g) (sym is_g) shows.greater in
    let back : IsPermutation (downward es) (reverse (downward es)) = IsPermutation-reverse (downward es) in
    let here : IsPermutation (downward es) l = IsPermutation-trans _ _ _ shows.lesser is_l in
    let down : IsPermutation (reverse (downward es)) l = IsPermutation-trans _ _ _ (IsPermutation-sym _ _ back) here in
    let proper : (f : Edge) → Contains (reverse (downward es)) f → f.u < f.v = λ f has. (All-contains (IsEdgeWithin n) l f within (Contains-permutation _ _ f down has)).1 in
    subst (λ xs. TellsFirst (record { kind = kind; line = get_or xs (x - 1) 0 }) (end_findings header end count done)) (sym shows.numbers)
    (end_mismatch header end count x kind done (omega arith) (omega arith) rows proper one
    (first_moved kind x (upward es) g (reverse (downward es)) l up down first))

abbrev graph : ℕ → List Edge → Graph
graph n xs = record { vertices = n; edges = xs }

graph_is : (n m : ℕ) (xs ys : List Edge) → n ≡ m → xs ≡ ys → graph n xs ≡ graph m ys
graph_is n m xs ys e f = rw (e, f) refl

pub body_accepted : (b : Body) (header : Header) (done : List VertexLine) (end count : ℕ) (sorted : List Edge) → BodyShows b header done (all_entries done) → RowsFrom 1 done
    → b.header.vertices ≤ length b.numbers.items → 2 * b.header.edges ≤ entry_count b
    → IsPermutation (greater_of b) sorted → IsPermutation (lesser_of b) sorted → AllPairs IsBefore sorted
    → (end_findings header end count done ≡ []) × (graph_shown header done ≡ record { vertices = b.header.vertices; edges = sorted })
body_accepted b header done end count sorted shows rows all entries moved_g moved_l up =
    let size : Sizes b header done (all_entries done) = sizes b header done (all_entries done) shows in
    let same : suc (length done) ≡ suc (length b.numbers.items) = size.vertex in
    let es : List Entry = all_entries done in
    let moved_up : IsPermutation (upward es) sorted = IsPermutation-trans _ _ _ shows.greater moved_g in
    let back : IsPermutation (reverse (downward es)) (downward es) = IsPermutation-sym _ _ (IsPermutation-reverse (downward es)) in
    let moved_down : IsPermutation (reverse (downward es)) sorted = IsPermutation-trans _ _ _ back (IsPermutation-trans _ _ _ shows.lesser moved_l) in
    let once : (y : ℕ) → IsOnceAt y (upward es) (reverse (downward es)) = λ y. once_at_moved y (upward es) sorted (reverse (downward es)) sorted moved_up moved_down
    (λ u v at. once_strict sorted up u v, λ u v at. once_strict sorted up u v) in
    let matched : (y : ℕ) → IsMatchedAt y (upward es) (reverse (downward es)) = λ y. matched_at_moved y (upward es) sorted (reverse (downward es)) sorted moved_up moved_down
    (λ e has at. has, λ e has at. has) in
    let within_up : All (IsEdgeWithin b.header.vertices) (upward es) =
    All-permutation (IsEdgeWithin b.header.vertices) (greater_of b) (upward es) (IsPermutation-sym _ _ shows.greater) b.greater_within in
    let edges : edges_of b.header.vertices es ≡ sorted = edges_are b.header.vertices es sorted (λ u v. entries_once u es (once u) v) within_up moved_up up in (
      end_none header end count done (omega arith) (omega arith) rows once matched,
      graph_is header.vertices b.header.vertices (edges_of header.vertices es) sorted size.vertices (ap (λ n. edges_of n es) size.vertices ∙ edges),
    )

-- sorted edges that both lists have are an edge list
pub matched_is_edge_list : (b : Body) (sorted : List Edge) → IsPermutation (greater_of b) sorted → IsPermutation (lesser_of b) sorted → AllPairs IsBefore sorted
    → IsEdgeList (record { vertices = b.header.vertices; edges = sorted })
matched_is_edge_list b sorted g l ascends =
    let sum_g : sum_by (λ (e : Edge). e.w) sorted ≡ sum_by (λ (e : Edge). e.w) (greater_of b) = sum_by-IsPermutation (λ (e : Edge). e.w) (greater_of b) sorted g in
    let sum_l : sum_by (λ (e : Edge). e.w) sorted ≡ sum_by (λ (e : Edge). e.w) (lesser_of b) = sum_by-IsPermutation (λ (e : Edge). e.w) (lesser_of b) sorted l in
    let len_g : length sorted ≡ length (greater_of b) = length_permutation (greater_of b) sorted g in
    let len_l : length sorted ≡ length (lesser_of b) = length_permutation (lesser_of b) sorted l in
    let total : b.total ≡ sum_by (λ (e : Edge). e.w) (greater_of b) + sum_by (λ (e : Edge). e.w) (lesser_of b) = b.total_is in
    let fits : b.total ≤ 2 ^ 62 = b.total_fits in
    let count : b.entries ≡ length (greater_of b) + length (lesser_of b) = b.counted in
    record {
      is_graph = record { in_range = All-permutation (IsEdgeWithin b.header.vertices) (greater_of b) sorted g b.greater_within; ascending = ascends; total = omega arith };
      few_vertices = b.header.few_vertices;
      few_edges = omega (arith, b.header.few_edges, b.entries_fit);
    }

-- the masses are as few as vertices may be
pub few_masses : (b : Body) → length b.masses.items ≤ 4194304
few_masses b = omega (arith, b.masses_of_lines, b.lines, b.header.few_vertices)

-- and one for each vertex, once all lines are read
pub one_for_each : (b : Body) → b.header.vertices ≤ length b.numbers.items → length b.masses.items ≡ b.header.vertices
one_for_each b all = omega (arith, b.masses_of_lines, b.lines)

-- if edges have no weights in the file, each weighs 1
pub each_weighs_one : (b : Body) (sorted : List Edge) → IsPermutation (greater_of b) sorted → b.header.format.has_edge_weights ≡ false → All (λ (e : Edge). e.w ≡ 1) sorted
each_weighs_one b sorted moved none =
    let P : Edge → Type 0 = IsEdgeWithin b.header.vertices in
    all_of_both b.header.vertices b.header.vertices b.greater.items (lesser_of b) sorted b.greater_within
    (All-append P (met_from 0 b.cursors.items b.greater.items) (b.lesser.items ++ waiting_of b.waiting) (All-met P 0 b.cursors.items b.greater.items b.greater_within) b.lesser_within)
    moved (sym b.total_is ∙ b.unit_weights none ∙ b.counted)

-- the measures of the graph
pub body_measured : (b : Body) (sorted : List Edge) (g : Graph) (m : Measures) → b.header.vertices ≤ length b.numbers.items → g ≡ record { vertices = b.header.vertices; edges = sorted }
    → IsPermutation (greater_of b) sorted → IsPermutation (lesser_of b) sorted → AllPairs IsBefore sorted
    → m.least_degree ≡ b.least_degree → m.lightest ≡ lightest_of sorted → m.heaviest ≡ heaviest_of sorted → AreMeasures g m
body_measured b sorted g m all is moved_g moved_l ascends least lightest heaviest =
    measures_are (length b.numbers.items) b.header.vertices b.least_degree b.before b.total (greater_of b) (lesser_of b) sorted g m b.line_weights b.lines all is
    (matched_is_edge_list b sorted moved_g moved_l ascends) moved_g moved_l least lightest heaviest
