use Rattle.std.proofs.Common.{◌≡◌, ◌+◌, ◌++◌, ℕ, List, length, take, drop, ap, sym, subst, ◌∙◌}
use Rattle.std.specs.Prelude.{sum_by}
use Rattle.std.specs.List.{All}
use Rattle.std.specs.List.Sorted.{IsPermutation}
use Rattle.std.proofs.lemmas.List.{take_at}
use Rattle.std.proofs.lemmas.List.Sorted.{IsPermutation-trans, length_permutation, sum_by-IsPermutation}
use Rattle.cut_definitions.specs.declared.edge_list.Edge.{Edge}
use Rattle.cut_definitions.specs.Graph.{IsEdgeWithin}
use Rattle.metis_reader.specs.Bodies.{waiting_of}
use Rattle.metis_reader.specs.Meeting.{with_met, IsOfFinished, IsOfNext}
use Rattle.metis_reader.proofs.Degrees.{lines_met}
use Rattle.metis_reader.proofs.Table.{rest_within, moved_waiting}
use Rattle.metis_reader.proofs.body.Body.settle_all.Goals as goal
use Rattle.metis_reader.proofs.body.Body.settle_all.Goals.{After-self-1}

abbrev cursors_now : After-self-1 → List ℕ
cursors_now c = take c.settle.new.self.cursors.len (c.meet.new.cursors ++ drop (length c.meet.new.cursors) c.settle.new.self.cursors.items)

cursors_are : (c : After-self-1) → cursors_now c ≡ c.meet.new.cursors
cursors_are c = take_at c.meet.new.cursors (drop (length c.meet.new.cursors) c.settle.new.self.cursors.items) c.settle.new.self.cursors.len
    (c.meet.auto.cursors ∙ c.as_mut_slice-cursors.ensures.len)

cursors_length : (c : After-self-1) → length (cursors_now c) ≡ length c.settle.new.self.cursors.items
cursors_length c = ap length (cursors_are c) ∙ c.meet.auto.cursors ∙ ap length c.as_mut_slice-cursors.ensures.value

abbrev rest : After-self-1 → List Edge
rest c = c.settle.new.self.lesser.items ++ waiting_of c.settle.new.self.waiting

abbrev rest_now : After-self-1 → List Edge
rest_now c = c.settle.new.self.lesser.items ++ waiting_of c.meet.new.self

step : (g h : List Edge) (b c d e : List ℕ) (l n : List Edge) → h ≡ g → c ≡ b → e ≡ d → IsPermutation (with_met h c l) (with_met h d n) → IsPermutation (with_met g b l) (with_met g e n)
step g h b c d e l n is_g is_c is_d moved =
    subst (λ g. IsPermutation (with_met g b l) (with_met g e n)) is_g
    (subst (λ c. IsPermutation (with_met h c l) (with_met h e n)) is_c
    (subst (λ e. IsPermutation (with_met h c l) (with_met h e n)) (sym is_d) moved))

moved : (c : After-self-1) → IsPermutation (with_met c.settle.new.self.greater.items c.settle.new.self.cursors.items (rest c)) (with_met c.settle.new.self.greater.items (cursors_now c) (rest_now c))
moved c =
    let b = c.settle.new.self in
    moved_waiting b.greater.items b.cursors.items (cursors_now c) b.lesser.items (waiting_of b.waiting) (waiting_of c.meet.new.self)
    (step b.greater.items c.deref.result.now b.cursors.items c.as_mut_slice-cursors.result.now c.meet.new.cursors (cursors_now c) (waiting_of b.waiting) (waiting_of c.meet.new.self)
    c.deref.ensures.value c.as_mut_slice-cursors.ensures.value (cursors_are c) c.meet.ensures)

pub invariant_of-self-clause-cursors_of_lines : goal.invariant_of-self-clause-cursors_of_lines
invariant_of-self-clause-cursors_of_lines c = cursors_length c ∙ c.settle.new.self.cursors_of_lines

pub invariant_of-self-clause-counted : goal.invariant_of-self-clause-counted
invariant_of-self-clause-counted c = c.settle.new.self.counted ∙ ap (λ n. length c.settle.new.self.greater.items + n) (sym (length_permutation _ _ (moved c)))

pub invariant_of-self-clause-finished_rows : goal.invariant_of-self-clause-finished_rows
invariant_of-self-clause-finished_rows c = subst (λ n. All (IsOfFinished n) (take c.settle.new.self.start c.settle.new.self.greater.items)) (sym (cursors_length c)) c.settle.new.self.finished_rows

pub invariant_of-self-clause-open_row : goal.invariant_of-self-clause-open_row
invariant_of-self-clause-open_row c = subst (λ n. All (IsOfNext n) (drop c.settle.new.self.start c.settle.new.self.greater.items)) (sym (cursors_length c)) c.settle.new.self.open_row

pub invariant_of-self-clause-total_is : goal.invariant_of-self-clause-total_is
invariant_of-self-clause-total_is c =
    c.settle.new.self.total_is ∙ ap (λ n. sum_by (λ (e : Edge). e.w) c.settle.new.self.greater.items + n) (sym (sum_by-IsPermutation (λ (e : Edge). e.w) _ _ (moved c)))

pub invariant_of-self-clause-lesser_within : goal.invariant_of-self-clause-lesser_within
invariant_of-self-clause-lesser_within c =
    rest_within (IsEdgeWithin c.settle.new.self.header.vertices) c.settle.new.self.greater.items c.settle.new.self.cursors.items (cursors_now c) (rest c) (rest_now c)
    c.settle.new.self.greater_within c.settle.new.self.lesser_within (moved c)

pub returns-clause-moved : goal.returns-clause-moved
returns-clause-moved c = IsPermutation-trans _ _ _ c.settle.ensures.moved (moved (goal.at.returns-clause-moved c).After-self-1)

pub invariant_of-self-clause-line_weights : goal.invariant_of-self-clause-line_weights
invariant_of-self-clause-line_weights c =
    let b = c.settle.new.self in
    lines_met (length b.numbers.items) b.least_degree b.before b.total b.greater.items
    (with_met b.greater.items b.cursors.items (rest c)) (with_met b.greater.items (cursors_now c) (rest_now c)) (moved c) b.line_weights
