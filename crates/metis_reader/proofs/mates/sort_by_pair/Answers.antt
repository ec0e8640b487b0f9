use Rattle.std.proofs.Common.{◌≡◌, ◌+◌, false, get_or, arith, is_lt, nat_cmp, rules}
use Rattle.std.specs.Ordering.{ordering_then}
use Rattle.std.proofs.lemmas.Bool.Decides.{nat_tests}
use Rattle.std.proofs.lemmas.List.Sorted.{answers_always}
use Rattle.cut_definitions.specs.declared.edge_list.Edge.{Edge}
use Rattle.cut_definitions.specs.Graph.{IsBefore}
use Rattle.metis_reader.proofs.mates.sort_by_pair.Goals as goal

not_before : (d e : Edge) → is_lt (ordering_then (nat_cmp d.u e.u) (nat_cmp d.v e.v)) ≡ false → IsBefore d e → ⊥
not_before d e h p = grind (arith, nat_tests)

pub returns-clause-ascends : goal.returns-clause-ascends
returns-clause-ascends c = λ k d lt.
    not_before (get_or c.sort_unstable_by_key.new.self (k + 1) d) (get_or c.sort_unstable_by_key.new.self k d)
    (c.sort_unstable_by_key.ensures.sorted (λ (e : Edge). (e.u, e.v)) (answers_always _ _ _ (λ f a r q h. search rules)) k d (omega arith) lt)
