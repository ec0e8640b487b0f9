use Rattle.std.proofs.Common.{◌≡◌, ◌+◌, ◌++◌, ◌∷◌, [], ℕ, suc, List, length, take, drop, arith, ap, sym, subst, refl, ◌∙◌}
use Rattle.std.specs.Prelude.{sum_by}
use Rattle.std.specs.List.{All, AllPairs}
use Rattle.std.specs.List.Sorted.{IsPermutation}
use Rattle.std.proofs.lemmas.Grind.{common_steps}
use Rattle.std.proofs.lemmas.List.{length_push, take_at, take_all, drop_all}
use Rattle.std.proofs.lemmas.List.Elements.{All-nil, All-same}
use Rattle.std.proofs.lemmas.List.Sorted.{All-permutation, sum_by-IsPermutation}
use Rattle.cut_definitions.specs.declared.edge_list.Edge.{Edge}
use Rattle.cut_definitions.specs.Graph.{IsBefore, IsEdgeWithin}
use Rattle.metis_reader.specs.Bodies.{waiting_of}
use Rattle.metis_reader.specs.Meeting.{with_met, IsOfFinished, IsOfNext, IsInFront}
use Rattle.metis_reader.proofs.Degrees.{line_over}
use Rattle.metis_reader.proofs.Table.{RowEnds, row_ends, shows_line}
use Rattle.metis_reader.proofs.body.Body.end_line.Goals as goal
use Rattle.metis_reader.proofs.body.Body.end_line.Goals.{After-len-self}

abbrev greater_now : After-len-self → List Edge
greater_now c = take c.args.self.now.greater.len (c.sort_row-ascends.new.edges ++ drop (length c.sort_row-ascends.new.edges) c.args.self.now.greater.items)

greater_is : (c : After-len-self) → greater_now c ≡ c.sort_row-ascends.new.edges
greater_is c = take_at c.sort_row-ascends.new.edges (drop (length c.sort_row-ascends.new.edges) c.args.self.now.greater.items) c.args.self.now.greater.len
    (c.sort_row-ascends.auto.edges ∙ c.as_mut_slice.ensures.len)

cursors_are : (c : After-len-self) → c.push_reserved-2.new.self.items ≡ c.args.self.now.cursors.items ++ c.args.self.now.start ∷ []
cursors_are c = grind (arith, common_steps)

length_is : (c : After-len-self) → length (greater_now c) ≡ length c.args.self.now.greater.items
length_is c = ap length (greater_is c) ∙ c.sort_row-ascends.auto.edges ∙ ap length c.as_mut_slice.ensures.value

ends : (c : After-len-self) → RowEnds c.args.self.now.start c.args.self.now.cursors.items c.args.self.now.greater.items (greater_now c)
ends c =
    let b = c.args.self.now in
    row_ends b.start b.cursors.items b.greater.items (greater_now c) b.start_within (length_is c) b.finished_rows b.open_row
    (ap (λ xs. take b.start xs) (greater_is c) ∙ c.sort_row-ascends.ensures.front ∙ ap (λ xs. take b.start xs) c.as_mut_slice.ensures.value)
    (subst (λ xs. IsPermutation (drop b.start b.greater.items) (drop b.start xs)) (sym (greater_is c))
    (subst (λ xs. IsPermutation (drop b.start xs) (drop b.start c.sort_row-ascends.new.edges)) c.as_mut_slice.ensures.value c.sort_row-ascends.ensures.row))

-- the entries that were not met, and those that wait
abbrev rest : After-len-self → List Edge
rest c = c.args.self.now.lesser.items ++ waiting_of c.args.self.now.waiting

abbrev rest_now : After-len-self → List Edge
rest_now c = c.args.self.now.lesser.items ++ waiting_of c.end_row-self.new.self

same_rest : (c : After-len-self) → rest_now c ≡ rest c
same_rest c = ap (λ xs. c.args.self.now.lesser.items ++ xs) c.end_row-self.ensures

same_met : (c : After-len-self) → with_met (greater_now c) c.push_reserved-2.new.self.items (rest_now c) ≡ with_met c.args.self.now.greater.items c.args.self.now.cursors.items (rest c)
same_met c =
    let e = ends c in
    ap (λ xs. with_met (greater_now c) c.push_reserved-2.new.self.items xs) (same_rest c)
    ∙ ap (λ cursors. with_met (greater_now c) cursors (rest c)) (cursors_are c) ∙ ap (λ xs. xs ++ rest c) e.met

at_end : (c : After-len-self) → length (greater_now c) ≡ c.len-self.result
at_end c = length_is c ∙ sym (ap length c.as_mut_slice.ensures.value) ∙ c.as_mut_slice.ensures.len ∙ sym c.len-self.ensures

pub invariant_of-self-clause-counted : goal.invariant_of-self-clause-counted
invariant_of-self-clause-counted c =
    c.args.self.now.counted ∙ ap (λ n. n + length (with_met c.args.self.now.greater.items c.args.self.now.cursors.items (rest c))) (sym (length_is c))
    ∙ ap (λ xs. length (greater_now c) + length xs) (sym (same_met c))

pub invariant_of-self-clause-start_within : goal.invariant_of-self-clause-start_within
invariant_of-self-clause-start_within c = let e = at_end c in omega arith

pub invariant_of-self-clause-finished_rows : goal.invariant_of-self-clause-finished_rows
invariant_of-self-clause-finished_rows c =
    let e = ends c in
    let end : length (greater_now c) ≡ c.len-self.result = at_end c in
    subst (λ cursors. All (IsOfFinished (length cursors)) (take c.len-self.result (greater_now c))) (sym (cursors_are c))
    (All-same (IsOfFinished (length (c.args.self.now.cursors.items ++ c.args.self.now.start ∷ []))) (take c.len-self.result (greater_now c)) (greater_now c)
    (take_all c.len-self.result (greater_now c) (omega arith)) e.finished)

pub invariant_of-self-clause-ascending : goal.invariant_of-self-clause-ascending
invariant_of-self-clause-ascending c = λ yes.
    let e = ends c in
    let b = c.args.self.now in
    let flags = c.both-self.ensures yes in
    let end : length (greater_now c) ≡ c.len-self.result = at_end c in
    subst (λ xs. AllPairs IsInFront xs) (sym (take_all c.len-self.result (greater_now c) (omega arith)))
    (e.ascends (b.ascending flags.0) (subst (λ xs. AllPairs IsBefore (drop b.start xs)) (sym (greater_is c)) (c.sort_row-ascends.ensures.ascends flags.1)))

pub invariant_of-self-clause-open_row : goal.invariant_of-self-clause-open_row
invariant_of-self-clause-open_row c =
    let end : length (greater_now c) ≡ c.len-self.result = at_end c in
    All-same (IsOfNext (length c.push_reserved-2.new.self.items)) (drop c.len-self.result (greater_now c)) [] (drop_all c.len-self.result (greater_now c) (omega arith)) (All-nil (IsOfNext (length c.push_reserved-2.new.self.items)))

pub invariant_of-self-clause-total_is : goal.invariant_of-self-clause-total_is
invariant_of-self-clause-total_is c =
    let e = ends c in
    c.args.self.now.total_is
    ∙ ap (λ n. n + sum_by (λ (e : Edge). e.w) (with_met c.args.self.now.greater.items c.args.self.now.cursors.items (rest c)))
    (sym (sum_by-IsPermutation (λ (e : Edge). e.w) c.args.self.now.greater.items (greater_now c) e.moved))
    ∙ ap (λ xs. sum_by (λ (e : Edge). e.w) (greater_now c) + sum_by (λ (e : Edge). e.w) xs) (sym (same_met c))

pub invariant_of-self-clause-greater_within : goal.invariant_of-self-clause-greater_within
invariant_of-self-clause-greater_within c =
    let e = ends c in
    All-permutation (IsEdgeWithin c.args.self.now.header.vertices) c.args.self.now.greater.items (greater_now c) e.moved c.args.self.now.greater_within

pub invariant_of-self-clause-lesser_within : goal.invariant_of-self-clause-lesser_within
invariant_of-self-clause-lesser_within c = All-same (IsEdgeWithin c.args.self.now.header.vertices) (rest_now c) (rest c) (same_rest c) c.args.self.now.lesser_within

one_more : (n : ℕ) → n + 1 ≡ suc n
one_more n = omega arith

numbers_are : (c : After-len-self) → c.push_reserved.new.self.items ≡ c.args.self.now.numbers.items ++ c.args.line ∷ []
numbers_are c = c.push_reserved.ensures.items

masses_are : (c : After-len-self) → c.push_reserved-3.new.self.items ≡ c.args.self.now.masses.items ++ c.args.self.now.mass ∷ []
masses_are c = c.push_reserved-3.ensures.items

pub invariant_of-self-clause-line_weights : goal.invariant_of-self-clause-line_weights
invariant_of-self-clause-line_weights c =
    let b = c.args.self.now in
    let e = ends c in
    line_over (length b.numbers.items) b.least_degree b.before b.total (length c.push_reserved.new.self.items) c.min-self.result
    b.greater.items (with_met b.greater.items b.cursors.items (rest c)) (greater_now c) (with_met (greater_now c) c.push_reserved-2.new.self.items (rest_now c))
    e.moved (same_met c) (ap length (numbers_are c) ∙ length_push b.numbers.items c.args.line ∙ one_more (length b.numbers.items)) c.min-self.ensures b.line_weights

pub returns-clause-shows : goal.returns-clause-shows
returns-clause-shows c = λ header done all here shows.
    let at = (goal.at.returns-clause-shows c).After-len-self in
    let e = ends at in
    shows_line c.args.self.now _ header done all here c.args.line refl (numbers_are at) (masses_are at) e.moved (same_met at) refl shows
