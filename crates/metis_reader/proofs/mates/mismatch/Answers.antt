use Rattle.std.proofs.Common.{◌<◌, subst, sym}
use Rattle.std.specs.List.Sorted.{IsPermutation}
use Rattle.std.proofs.lemmas.List.Sorted.{All-permutation}
use Rattle.std.proofs.lemmas.List.Elements.{All-get_or}
use Rattle.cut_definitions.specs.declared.edge_list.Edge.{Edge}
use Rattle.metis_reader.proofs.Times.{both_some, both_none, once_strict}
use Rattle.metis_reader.proofs.Moved.{repeats_at_moved, once_at_moved, lacks_at_moved, matched_at_moved}
use Rattle.metis_reader.proofs.mates.mismatch.Goals as goal

pub returns-in-Some-clause-some : goal.returns-in-Some-clause-some
returns-in-Some-clause-some c =
    let first = both_some c.sort_by_pair.new.edges c.sort_by_pair-2.new.edges c.least_repeated-at_greater.result c.least_repeated-at_lesser.result c.lesser_of_both.result c.in-Some.vertex
    c.least_repeated-at_greater.ensures.none c.least_repeated-at_greater.ensures.some c.least_repeated-at_lesser.ensures.none c.least_repeated-at_lesser.ensures.some
    c.lesser_of_both.ensures c.in-Some.is in (
      repeats_at_moved c.in-Some.vertex c.args.greater.now c.sort_by_pair.new.edges c.args.lesser.now c.sort_by_pair-2.new.edges c.sort_by_pair.ensures.moved c.sort_by_pair-2.ensures.moved first.0,
      λ y lt. once_at_moved y c.args.greater.now c.sort_by_pair.new.edges c.args.lesser.now c.sort_by_pair-2.new.edges c.sort_by_pair.ensures.moved c.sort_by_pair-2.ensures.moved (first.1 y lt),
    )

pub least_unmatched-requires-clause-greater : goal.least_unmatched-requires-clause-greater
least_unmatched-requires-clause-greater c =
    (both_none c.sort_by_pair.new.edges c.sort_by_pair-2.new.edges c.least_repeated-at_greater.result c.least_repeated-at_lesser.result c.lesser_of_both.result
    c.least_repeated-at_greater.ensures.none c.least_repeated-at_lesser.ensures.none c.lesser_of_both.ensures c.in_default.is).0

pub least_unmatched-requires-clause-lesser : goal.least_unmatched-requires-clause-lesser
least_unmatched-requires-clause-lesser c =
    (both_none c.sort_by_pair.new.edges c.sort_by_pair-2.new.edges c.least_repeated-at_greater.result c.least_repeated-at_lesser.result c.lesser_of_both.result
    c.least_repeated-at_greater.ensures.none c.least_repeated-at_lesser.ensures.none c.lesser_of_both.ensures c.in_default.is).1

pub least_unmatched-requires-clause-in_order : goal.least_unmatched-requires-clause-in_order
least_unmatched-requires-clause-in_order c = λ k d lt.
    All-get_or (λ (e : Edge). e.u < e.v) c.sort_by_pair.new.edges k d lt (All-permutation (λ (e : Edge). e.u < e.v) c.args.greater.now c.sort_by_pair.new.edges c.sort_by_pair.ensures.moved c.requires)

pub returns-in-Some-least_unmatched-clause-some : goal.returns-in-Some-least_unmatched-clause-some
returns-in-Some-least_unmatched-clause-some c =
    let strict = both_none c.sort_by_pair.new.edges c.sort_by_pair-2.new.edges c.least_repeated-at_greater.result c.least_repeated-at_lesser.result c.lesser_of_both.result
    c.least_repeated-at_greater.ensures.none c.least_repeated-at_lesser.ensures.none c.lesser_of_both.ensures c.in_default.is in
    let first = c.in-Some-least_unmatched.ensures.some in (
      lacks_at_moved c.in-Some-least_unmatched.vertex c.args.greater.now c.sort_by_pair.new.edges c.args.lesser.now c.sort_by_pair-2.new.edges c.sort_by_pair.ensures.moved c.sort_by_pair-2.ensures.moved first.0,
      λ y lt. matched_at_moved y c.args.greater.now c.sort_by_pair.new.edges c.args.lesser.now c.sort_by_pair-2.new.edges c.sort_by_pair.ensures.moved c.sort_by_pair-2.ensures.moved (first.1 y lt),
      λ y. once_at_moved y c.args.greater.now c.sort_by_pair.new.edges c.args.lesser.now c.sort_by_pair-2.new.edges c.sort_by_pair.ensures.moved c.sort_by_pair-2.ensures.moved
          (λ u v at. once_strict c.sort_by_pair.new.edges strict.0 u v, λ u v at. once_strict c.sort_by_pair-2.new.edges strict.1 u v),
    )

pub returns-clause-ascends : goal.returns-clause-ascends
returns-clause-ascends c =
    (both_none c.sort_by_pair.new.edges c.sort_by_pair-2.new.edges c.least_repeated-at_greater.result c.least_repeated-at_lesser.result c.lesser_of_both.result
    c.least_repeated-at_greater.ensures.none c.least_repeated-at_lesser.ensures.none c.lesser_of_both.ensures c.in_default.is).0

pub returns-clause-lesser : goal.returns-clause-lesser
returns-clause-lesser c =
    subst (λ xs. IsPermutation c.args.lesser.now xs) (sym c.in_default-least_unmatched.ensures.none) c.sort_by_pair-2.ensures.moved
