-- What is known of the uneven triangle by hand.
use Rattle.std.proofs.Common.{◌≡◌, ℕ, zero, suc, true, List, [], ◌∷◌, refl, sym, subst, arith}
use Rattle.std.specs.Prelude.{IsTrue}
use Rattle.std.specs.List.{Any}
use Rattle.std.proofs.lemmas.Bool.{false≢true}
use Rattle.cut_definitions.specs.Graph.{Graph}
use Rattle.cut_definitions.specs.Weight.{parts}
use Rattle.cut_definitions.specs.Cuts.{has, sides, value, mincuts}
use Rattle.cut_definitions.specs.Safe.{IsFair}
use Rattle.weighted_graph.specs.RowLaws.{edge_at}
use Rattle.scan_core.specs.Shown.{ArePartedEdges}

abbrev pub uneven : Graph
uneven = record { vertices = 3; edges = record { u = 1; v = 2; w = 5 } ∷ (record { u = 1; v = 3; w = 1 } ∷ (record { u = 2; v = 3; w = 4 } ∷ [])) }

-- the weight of vertex 1
pub fair_six : IsFair uneven 6
unfolding sides
fair_six = (1, 2 ∷ (3 ∷ []), omega arith, refl, refl)

pub value_five : 5 ≡ value uneven
unfolding value sides
value_five = refl

-- vertex 3 alone is the one minimum cut
cuts_are : mincuts uneven ≡ (3 ∷ []) ∷ []
unfolding mincuts value sides
cuts_are = refl

abbrev PartsSome : ℕ → List (List ℕ) → Type 0
PartsSome e cuts = Any (λ side. IsTrue (parts (has side) (edge_at uneven e).u (edge_at uneven e).v)) cuts

none_first : PartsSome 0 ((3 ∷ []) ∷ []) → ⊥
none_first (zero, s, lt, is, p) = absurd (false≢true (subst (λ (l : List ℕ). parts (has l) 1 2 ≡ true) (sym is) p))
none_first (suc k, s, lt, is, p) = absurd (omega arith)

one_more : (e : ℕ) → IsTrue (parts (has (3 ∷ [])) (edge_at uneven e).u (edge_at uneven e).v) → PartsSome e ((3 ∷ []) ∷ [])
one_more e is = (0, 3 ∷ [], omega arith, refl, is)

pub parted_are : ArePartedEdges uneven (1 ∷ (2 ∷ []))
parted_are zero lt = ((λ is. absurd (false≢true is)), (λ there. absurd (none_first (subst (PartsSome 0) cuts_are there))))
parted_are (suc zero) lt = ((λ is. subst (PartsSome 1) (sym cuts_are) (one_more 1 refl)), (λ there. refl))
parted_are (suc (suc zero)) lt = ((λ is. subst (PartsSome 2) (sym cuts_are) (one_more 2 refl)), (λ there. refl))
parted_are (suc (suc (suc e))) lt = absurd (omega arith)
