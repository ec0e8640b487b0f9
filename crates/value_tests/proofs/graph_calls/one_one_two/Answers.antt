use Rattle.std.proofs.Common.{◌≡◌, ℕ, ◌≤◌, ⊎_elim, [], ◌∷◌, refl, subst, sym, arith}
use Rattle.std.specs.Prelude.{◌≢◌}
use Rattle.std.specs.List.{Contains}
use Rattle.std.proofs.lemmas.Bool.{cases_eq}
use Rattle.std.proofs.lemmas.List.Elements.{All-nil, All-cons}
use Rattle.cut_definitions.specs.Contraction.{IsLabels}
use Rattle.value_tests.proofs.graph_calls.one_one_two.Goals as goal

has_both : (c : ℕ) → 1 ≤ c → c ≤ 2 → Contains (1 ∷ 1 ∷ 2 ∷ []) c
has_both c l u =
    ⊎_elim
    (λ (e : c ≡ 1). (0, omega arith, sym e))
    (λ (ne : c ≢ 1). (2, omega arith, (let e : 2 ≡ c = omega arith in e)))
    (cases_eq c 1)

are_labels : IsLabels (1 ∷ 1 ∷ 2 ∷ [])
are_labels = record {
  from_one = All-cons (λ c. 1 ≤ c) 1 (1 ∷ 2 ∷ []) (omega arith) (All-cons (λ c. 1 ≤ c) 1 (2 ∷ []) (omega arith) (All-cons (λ c. 1 ≤ c) 2 [] (omega arith) (All-nil (λ c. 1 ≤ c))));
  used = has_both;
  first = λ some. refl;
}

pub from_list-requires-clause-labels : goal.from_list-requires-clause-labels
from_list-requires-clause-labels c = subst IsLabels (sym c.in_ok-list.ensures.items) are_labels
