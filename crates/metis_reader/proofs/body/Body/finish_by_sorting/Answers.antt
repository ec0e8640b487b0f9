use Rattle.std.proofs.Common.{◌≡◌, ◌≤◌, ◌<◌, ◌+◌, ◌++◌, ℕ, List, length, drop, arith, subst, sym, ap, ◌∙◌, length-append}
use Rattle.std.specs.List.{All}
use Rattle.std.specs.List.Sorted.{IsPermutation}
use Rattle.std.proofs.lemmas.List.{take_at}
use Rattle.std.proofs.lemmas.List.Elements.{All-weaker, All-append, All-same}
use Rattle.std.proofs.lemmas.List.Sorted.{IsPermutation-append_comm, IsPermutation-trans, All-permutation}
use Rattle.cut_definitions.specs.declared.edge_list.Edge.{Edge}
use Rattle.cut_definitions.specs.Graph.{Graph, IsEdgeWithin, IsEdgeList}
use Rattle.metis_reader.specs.declared.body.Body.{Body}
use Rattle.metis_reader.specs.Measures.{heaviest_of, lightest_of}
use Rattle.metis_reader.specs.Meeting.{met_from}
use Rattle.metis_reader.specs.Bodies.{greater_of, lesser_of, waiting_of}
use Rattle.metis_reader.specs.Ending.{TellsFirst}
use Rattle.metis_reader.specs.File.{end_findings}
use Rattle.metis_reader.proofs.Meeting.{All-met}
use Rattle.metis_reader.proofs.EndLaw.{mismatch_inside}
use Rattle.metis_reader.proofs.BodyEnd.{body_mismatch, body_accepted, matched_is_edge_list, few_masses, one_for_each, each_weighs_one, body_measured}
use Rattle.metis_reader.proofs.body.Body.finish_by_sorting.Goals as goal
use Rattle.metis_reader.proofs.body.Body.finish_by_sorting.Goals.{After-shrink_to_fit}

lengths : (b : Body) → b.entries ≡ length b.greater.items + (length (met_from 0 b.cursors.items b.greater.items) + (length b.lesser.items + length (waiting_of b.waiting)))
lengths b =
    b.counted
    ∙ ap (λ n. length b.greater.items + n)
    (length-append (met_from 0 b.cursors.items b.greater.items) (b.lesser.items ++ waiting_of b.waiting) ∙ ap (λ n. length (met_from 0 b.cursors.items b.greater.items) + n) (length-append b.lesser.items (waiting_of b.waiting)))

pub release-requires : goal.release-requires
release-requires c = omega (arith, lengths c.args.self, c.args.self.entries_fit, c.args.self.lesser_room)

pub put_back-requires : goal.put_back-requires
put_back-requires c =
    let b = c.args.self in
    let g : length c.deref.result.now ≡ length b.greater.items = ap length c.deref.ensures.value in
    let l : length c.release.new.lesser.items ≡ length b.lesser.items + length (waiting_of b.waiting) = ap length c.release.ensures.items ∙ length-append b.lesser.items (waiting_of b.waiting) in
    omega (arith, lengths b, b.entries_fit, b.lesser_room, c.release.ensures.capacity)

back : (b : Body) (l g : List Edge) (cursors : List ℕ) → g ≡ b.greater.items → cursors ≡ b.cursors.items → l ≡ (b.lesser.items ++ waiting_of b.waiting) ++ met_from 0 cursors g → IsPermutation (lesser_of b) l
back b l g cursors is_g is_c is =
    subst (λ l. IsPermutation (lesser_of b) l)
    (sym (is ∙ ap (λ g. (b.lesser.items ++ waiting_of b.waiting) ++ met_from 0 cursors g) is_g ∙ ap (λ cursors. (b.lesser.items ++ waiting_of b.waiting) ++ met_from 0 cursors b.greater.items) is_c))
    (IsPermutation-append_comm (met_from 0 b.cursors.items b.greater.items) (b.lesser.items ++ waiting_of b.waiting))

greater_inside : (b : Body) (g : List Edge) → g ≡ b.greater.items → All (IsEdgeWithin b.header.vertices) g
greater_inside b g is = All-same (IsEdgeWithin b.header.vertices) g b.greater.items is b.greater_within

lesser_inside : (b : Body) (l : List Edge) → IsPermutation (lesser_of b) l → All (IsEdgeWithin b.header.vertices) l
lesser_inside b l moved =
    let P : Edge → Type 0 = IsEdgeWithin b.header.vertices in
    All-permutation P (lesser_of b) l moved
    (All-append P (met_from 0 b.cursors.items b.greater.items) (b.lesser.items ++ waiting_of b.waiting) (All-met P 0 b.cursors.items b.greater.items b.greater_within) b.lesser_within)

pub mismatch-requires : goal.mismatch-requires
mismatch-requires c =
    All-weaker (IsEdgeWithin c.args.self.header.vertices) (λ (e : Edge). e.u < e.v) (λ e h. h.1) c.as_mut_slice.result.now
    (greater_inside c.args.self c.as_mut_slice.result.now c.as_mut_slice.ensures.value)

pub fault_of_vertex-requires-clause-from_one : goal.fault_of_vertex-requires-clause-from_one
fault_of_vertex-requires-clause-from_one c =
    let b = c.args.self in
    let l = back b c.as_mut_slice-2.result.now c.deref.result.now c.deref-2.result.now c.deref.ensures.value c.deref-2.ensures.value (c.as_mut_slice-2.ensures.value ∙ c.put_back.ensures ∙ ap (λ xs. xs ++ met_from 0 c.deref-2.result.now c.deref.result.now) c.release.ensures.items) in
    (mismatch_inside b.header.vertices c.in-Some.vertex c.in-Some.kind c.as_mut_slice.result.now c.as_mut_slice-2.result.now
    (greater_inside b c.as_mut_slice.result.now c.as_mut_slice.ensures.value) (lesser_inside b c.as_mut_slice-2.result.now l) c.in-Some.ensures.some).0

pub fault_of_vertex-requires-clause-has_line : goal.fault_of_vertex-requires-clause-has_line
fault_of_vertex-requires-clause-has_line c =
    let b = c.args.self in
    let l = back b c.as_mut_slice-2.result.now c.deref.result.now c.deref-2.result.now c.deref.ensures.value c.deref-2.ensures.value (c.as_mut_slice-2.ensures.value ∙ c.put_back.ensures ∙ ap (λ xs. xs ++ met_from 0 c.deref-2.result.now c.deref.result.now) c.release.ensures.items) in
    let most : c.in-Some.vertex ≤ b.header.vertices = (mismatch_inside b.header.vertices c.in-Some.vertex c.in-Some.kind c.as_mut_slice.result.now c.as_mut_slice-2.result.now
    (greater_inside b c.as_mut_slice.result.now c.as_mut_slice.ensures.value) (lesser_inside b c.as_mut_slice-2.result.now l) c.in-Some.ensures.some).1 in
    let all : b.header.vertices ≤ length b.numbers.items = c.requires.lines in
    omega arith

pub returns-in-Some-clause-exact : goal.returns-in-Some-clause-exact
returns-in-Some-clause-exact c = λ header done end lines shows rows.
    let b = c.args.self in
    let l = back b c.as_mut_slice-2.result.now c.deref.result.now c.deref-2.result.now c.deref.ensures.value c.deref-2.ensures.value (c.as_mut_slice-2.ensures.value ∙ c.put_back.ensures ∙ ap (λ xs. xs ++ met_from 0 c.deref-2.result.now c.deref.result.now) c.release.ensures.items) in
    let inside = mismatch_inside b.header.vertices c.in-Some.vertex c.in-Some.kind c.as_mut_slice.result.now c.as_mut_slice-2.result.now
    (greater_inside b c.as_mut_slice.result.now c.as_mut_slice.ensures.value) (lesser_inside b c.as_mut_slice-2.result.now l) c.in-Some.ensures.some in
    subst (λ f. TellsFirst f (end_findings header end lines done)) (sym c.fault_of_vertex.ensures)
    (body_mismatch b header done end lines c.in-Some.vertex b.header.vertices c.in-Some.kind c.as_mut_slice.result.now c.as_mut_slice-2.result.now shows rows
    c.requires.lines c.requires.entries c.as_mut_slice.ensures.value l (lesser_inside b c.as_mut_slice-2.result.now l) c.in-Some.ensures.some inside.0)

-- the edges that are kept are the sorted entries to greater neighbours
edges_kept : (c : After-shrink_to_fit) → c.shrink_to_fit.new.self.items ≡ c.mismatch.new.greater
edges_kept c =
    c.shrink_to_fit.ensures.items
    ∙ take_at c.mismatch.new.greater (drop (length c.mismatch.new.greater) c.args.self.greater.items) c.args.self.greater.len (c.mismatch.auto.greater ∙ c.as_mut_slice.ensures.len)

record Matched (b : Body) (sorted : List Edge) : Type 0 where
  greater : IsPermutation (greater_of b) sorted
  lesser : IsPermutation (lesser_of b) sorted

matched : (c : After-shrink_to_fit) → Matched c.args.self c.mismatch.new.greater
matched c =
    let b = c.args.self in
    let l = back b c.as_mut_slice-2.result.now c.deref.result.now c.deref-2.result.now c.deref.ensures.value c.deref-2.ensures.value (c.as_mut_slice-2.ensures.value ∙ c.put_back.ensures ∙ ap (λ xs. xs ++ met_from 0 c.deref-2.result.now c.deref.result.now) c.release.ensures.items) in
    record {
      greater = subst (λ g. IsPermutation g c.mismatch.new.greater) c.as_mut_slice.ensures.value c.mismatch.ensures.greater;
      lesser = IsPermutation-trans (lesser_of b) c.as_mut_slice-2.result.now c.mismatch.new.greater l c.in_default.ensures.lesser;
    }

pub from_edges-requires : goal.from_edges-requires
from_edges-requires c =
    let at = (goal.at.from_edges-requires c).After-shrink_to_fit in
    let m = matched at in
    subst (λ edges. IsEdgeList (record { vertices = c.args.self.header.vertices; edges = edges })) (sym (edges_kept at))
    (matched_is_edge_list c.args.self c.mismatch.new.greater m.greater m.lesser c.in_default.ensures.ascends)

pub returns-clause-exact : goal.returns-clause-exact
returns-clause-exact c = λ header done end lines shows rows.
    let at = (goal.at.returns-clause-exact c).After-shrink_to_fit in
    let m = matched at in
    let b = c.args.self in
    let accepted = body_accepted b header done end lines c.mismatch.new.greater shows rows c.requires.lines c.requires.entries m.greater m.lesser c.in_default.ensures.ascends in (
      accepted.0,
      accepted.1 ∙ sym (subst (λ edges. c.from_edges.result ≡ record { vertices = b.header.vertices; edges = edges }) (edges_kept at) c.from_edges.ensures),
      sym shows.masses ∙ sym c.into_weights.ensures,
    )

pub into_weights-requires : goal.into_weights-requires
into_weights-requires c = few_masses c.args.self

pub returns-clause-weighed : goal.returns-clause-weighed
returns-clause-weighed c =
    ap length c.into_weights.ensures ∙ one_for_each c.args.self c.requires.lines ∙ sym (ap (λ (g : Graph). g.vertices) c.from_edges.ensures)

pub measures_of-measures-requires : goal.measures_of-measures-requires
measures_of-measures-requires c = λ none.
    let at = (goal.at.measures_of-measures-requires c).After-shrink_to_fit in
    All-same (λ (e : Edge). e.w ≡ 1) c.deref-3.result.now c.mismatch.new.greater (c.deref-3.ensures.value ∙ edges_kept at) (each_weighs_one c.args.self c.mismatch.new.greater (matched at).greater none)

pub returns-clause-measured : goal.returns-clause-measured
returns-clause-measured c =
    let at = (goal.at.returns-clause-measured c).After-shrink_to_fit in
    let m = matched at in
    let b = c.args.self in
    body_measured b c.mismatch.new.greater c.from_edges.result c.measures_of-measures.result c.requires.lines
    (subst (λ edges. c.from_edges.result ≡ record { vertices = b.header.vertices; edges = edges }) (edges_kept at) c.from_edges.ensures)
    m.greater m.lesser c.in_default.ensures.ascends
    c.measures_of-measures.ensures.least
    (c.measures_of-measures.ensures.lightest ∙ ap lightest_of (c.deref-3.ensures.value ∙ edges_kept at))
    (c.measures_of-measures.ensures.heaviest ∙ ap heaviest_of (c.deref-3.ensures.value ∙ edges_kept at))
