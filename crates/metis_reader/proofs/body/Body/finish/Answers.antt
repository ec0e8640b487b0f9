use Rattle.std.proofs.Common.{◌≡◌, ◌≤◌, ◌*◌, length, arith, subst, sym, ap, ◌∙◌}
use Rattle.std.proofs.lemmas.List.Sorted.{IsPermutation-refl}
use Rattle.std.proofs.lemmas.List.Elements.{All-same}
use Rattle.cut_definitions.specs.declared.edge_list.Edge.{Edge}
use Rattle.cut_definitions.specs.Graph.{Graph, IsEdgeList}
use Rattle.metis_reader.specs.Measures.{heaviest_of, lightest_of}
use Rattle.metis_reader.specs.declared.header.Header.{Header}
use Rattle.metis_reader.specs.declared.body.Body.{Body}
use Rattle.metis_reader.specs.File.{all_entries}
use Rattle.metis_reader.proofs.BodyEnd.{body_missing, body_few, body_accepted, matched_is_edge_list, few_masses, one_for_each, each_weighs_one, body_measured}
use Rattle.metis_reader.proofs.Table.{shows_moved}
use Rattle.metis_reader.proofs.body.Body.finish.Goals as goal

all_lines : (a b : Body) → b.header ≡ a.header → b.numbers.items ≡ a.numbers.items → a.header.vertices ≤ length a.numbers.items → b.header.vertices ≤ length b.numbers.items
all_lines a b header numbers h =
    let n : b.header.vertices ≡ a.header.vertices = ap (λ (h : Header). h.vertices) header in
    let lines : length b.numbers.items ≡ length a.numbers.items = ap length numbers in
    omega arith

all_entries_there : (a b : Body) → b.header ≡ a.header → b.entries ≡ a.entries → 2 * a.header.edges ≤ a.entries → 2 * b.header.edges ≤ b.entries
all_entries_there a b header entries h =
    let m : b.header.edges ≡ a.header.edges = ap (λ (h : Header). h.edges) header in
    omega arith

pub returns-then-not-has_all_lines-clause-exact : goal.returns-then-not-has_all_lines-clause-exact
returns-then-not-has_all_lines-clause-exact c = λ header done end shows rows. body_missing c.args.self header done end c.args.lines shows c.if-not-has_all_lines.ensures

pub returns-then-not-has_all_entries-clause-exact : goal.returns-then-not-has_all_entries-clause-exact
returns-then-not-has_all_entries-clause-exact c = λ header done end shows rows. body_few c.args.self header done end c.args.lines shows c.if-not-has_all_lines.ensures c.if-not-has_all_entries.ensures

pub finish_by_sorting-requires : goal.finish_by_sorting-requires
finish_by_sorting-requires c = record {
  lines = all_lines c.args.self c.settle_all.new.self c.settle_all.ensures.same_header c.settle_all.ensures.same_lines c.if-not-has_all_lines.ensures;
  entries = all_entries_there c.args.self c.settle_all.new.self c.settle_all.ensures.same_header c.settle_all.ensures.same_entries c.if-not-has_all_entries.ensures;
}

pub returns-then-not-is_met-clause-exact : goal.returns-then-not-is_met-clause-exact
returns-then-not-is_met-clause-exact c = λ header done end shows rows.
    c.finish_by_sorting.ensures.exact header done end c.args.lines
    (shows_moved c.args.self c.settle_all.new.self header done (all_entries done) (record { header = c.settle_all.ensures.same_header; numbers = c.settle_all.ensures.same_lines; masses = c.settle_all.ensures.same_masses })
    c.settle_all.ensures.same_greater c.settle_all.ensures.moved c.settle_all.ensures.same_total shows)
    rows

pub from_edges-requires : goal.from_edges-requires
from_edges-requires c =
    let b = c.settle_all.new.self in
    subst (λ edges. IsEdgeList (record { vertices = b.header.vertices; edges = edges })) (sym c.shrink_to_fit.ensures.items)
    (matched_is_edge_list b b.greater.items (IsPermutation-refl b.greater.items) (c.is_met.ensures.lesser c.if-not-is_met.false) (c.is_met.ensures.ascends c.if-not-is_met.false))

pub returns-clause-exact : goal.returns-clause-exact
returns-clause-exact c = λ header done end shows rows.
    let b = c.settle_all.new.self in
    let now = shows_moved c.args.self b header done (all_entries done) (record { header = c.settle_all.ensures.same_header; numbers = c.settle_all.ensures.same_lines; masses = c.settle_all.ensures.same_masses })
    c.settle_all.ensures.same_greater c.settle_all.ensures.moved c.settle_all.ensures.same_total shows in
    let accepted = body_accepted b header done end c.args.lines b.greater.items now rows
    (all_lines c.args.self b c.settle_all.ensures.same_header c.settle_all.ensures.same_lines c.if-not-has_all_lines.ensures)
    (all_entries_there c.args.self b c.settle_all.ensures.same_header c.settle_all.ensures.same_entries c.if-not-has_all_entries.ensures)
    (IsPermutation-refl b.greater.items) (c.is_met.ensures.lesser c.if-not-is_met.false) (c.is_met.ensures.ascends c.if-not-is_met.false) in (
      accepted.0,
      accepted.1 ∙ sym (subst (λ edges. c.from_edges.result ≡ record { vertices = b.header.vertices; edges = edges }) c.shrink_to_fit.ensures.items c.from_edges.ensures),
      sym now.masses ∙ sym c.into_weights.ensures,
    )

pub into_weights-requires : goal.into_weights-requires
into_weights-requires c = few_masses c.settle_all.new.self

pub returns-clause-weighed : goal.returns-clause-weighed
returns-clause-weighed c =
    let b = c.settle_all.new.self in
    ap length c.into_weights.ensures
    ∙ one_for_each b (all_lines c.args.self b c.settle_all.ensures.same_header c.settle_all.ensures.same_lines c.if-not-has_all_lines.ensures)
    ∙ sym (ap (λ (g : Graph). g.vertices) c.from_edges.ensures)

pub measures_of-measures-requires : goal.measures_of-measures-requires
measures_of-measures-requires c = λ none.
    let b = c.settle_all.new.self in
    All-same (λ (e : Edge). e.w ≡ 1) c.deref.result.now b.greater.items (c.deref.ensures.value ∙ c.shrink_to_fit.ensures.items) (each_weighs_one b b.greater.items (IsPermutation-refl b.greater.items) none)

pub returns-clause-measured : goal.returns-clause-measured
returns-clause-measured c =
    let b = c.settle_all.new.self in
    body_measured b b.greater.items c.from_edges.result c.measures_of-measures.result
    (all_lines c.args.self b c.settle_all.ensures.same_header c.settle_all.ensures.same_lines c.if-not-has_all_lines.ensures)
    (subst (λ edges. c.from_edges.result ≡ record { vertices = b.header.vertices; edges = edges }) c.shrink_to_fit.ensures.items c.from_edges.ensures)
    (IsPermutation-refl b.greater.items) (c.is_met.ensures.lesser c.if-not-is_met.false) (c.is_met.ensures.ascends c.if-not-is_met.false)
    c.measures_of-measures.ensures.least
    (c.measures_of-measures.ensures.lightest ∙ ap lightest_of (c.deref.ensures.value ∙ c.shrink_to_fit.ensures.items))
    (c.measures_of-measures.ensures.heaviest ∙ ap heaviest_of (c.deref.ensures.value ∙ c.shrink_to_fit.ensures.items))
