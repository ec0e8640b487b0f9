-- The definitions at small graphs, computed.
use Rattle.std.proofs.Common.{◌≡◌, ℕ, true, false, List, [], ◌∷◌, refl}
use Rattle.std.specs.Prelude.{not}
use Rattle.std.specs.List.{list_all}
use Rattle.cut_definitions.specs.declared.edge_list.Edge.{Edge}
use Rattle.cut_definitions.specs.Graph.{Graph}
use Rattle.cut_definitions.specs.Weight.{parts, weight}
use Rattle.cut_definitions.specs.Cuts.{has, sides, value, mincuts}
use Rattle.cut_definitions.specs.Contraction.{relabel, lift}
use Rattle.cut_definitions.specs.Chain.{sets_across, chain_of}

abbrev edge : ℕ → ℕ → ℕ → Edge
edge a b x = record { u = a; v = b; w = x }

abbrev one : ℕ → List ℕ
one a = a ∷ []

abbrev two : ℕ → ℕ → List ℕ
two a b = a ∷ (b ∷ [])

abbrev three : ℕ → ℕ → ℕ → List ℕ
three a b c = a ∷ (b ∷ (c ∷ []))

-- the weights 5, 1 and 4
abbrev weighted : Graph
weighted = record { vertices = 3; edges = edge 1 2 5 ∷ (edge 1 3 1 ∷ (edge 2 3 4 ∷ [])) }

abbrev triangle : Graph
triangle = record { vertices = 3; edges = edge 1 2 1 ∷ (edge 1 3 1 ∷ (edge 2 3 1 ∷ [])) }

abbrev path : Graph
path = record { vertices = 3; edges = edge 1 2 5 ∷ (edge 2 3 5 ∷ []) }

abbrev ring : Graph
ring = record { vertices = 4; edges = edge 1 2 1 ∷ (edge 1 4 1 ∷ (edge 2 3 1 ∷ (edge 3 4 1 ∷ []))) }

-- all of four vertices joined
abbrev complete : Graph
complete = record { vertices = 4; edges = edge 1 2 1 ∷ (edge 1 3 1 ∷ (edge 1 4 1 ∷ (edge 2 3 1 ∷ (edge 2 4 1 ∷ (edge 3 4 1 ∷ []))))) }

abbrev pair : Graph
pair = record { vertices = 2; edges = edge 1 2 7 ∷ [] }

-- two edges without a vertex in common
abbrev apart : Graph
apart = record { vertices = 4; edges = edge 1 2 1 ∷ (edge 3 4 1 ∷ []) }

-- minimum cuts of which two cross in two ways
abbrev six : Graph
six = record {
  vertices = 6;
  edges = edge 1 2 2 ∷ (edge 1 4 1 ∷ (edge 1 6 1 ∷ (edge 2 3 2 ∷ (edge 3 4 1 ∷ (edge 3 6 1 ∷ (edge 4 5 2 ∷ (edge 5 6 2 ∷ [])))))));
}

weight-of_third : weight weighted (has (one 3)) ≡ 5
weight-of_third = refl

value-weighted : value weighted ≡ 5
unfolding value sides
value-weighted = refl

mincuts-weighted : mincuts weighted ≡ one 3 ∷ []
unfolding mincuts value sides
mincuts-weighted = refl

value-triangle : value triangle ≡ 2
unfolding value sides
value-triangle = refl

mincuts-triangle : mincuts triangle ≡ one 2 ∷ (two 2 3 ∷ (one 3 ∷ []))
unfolding mincuts value sides
mincuts-triangle = refl

mincuts-path : mincuts path ≡ two 2 3 ∷ (one 3 ∷ [])
unfolding mincuts value sides
mincuts-path = refl

mincuts-ring : mincuts ring ≡ one 2 ∷ (two 2 3 ∷ (three 2 3 4 ∷ (one 3 ∷ (two 3 4 ∷ (one 4 ∷ [])))))
unfolding mincuts value sides
mincuts-ring = refl

mincuts-complete : mincuts complete ≡ one 2 ∷ (three 2 3 4 ∷ (one 3 ∷ (one 4 ∷ [])))
unfolding mincuts value sides
mincuts-complete = refl

mincuts-pair : mincuts pair ≡ one 2 ∷ []
unfolding mincuts value sides
mincuts-pair = refl

value-six : value six ≡ 4
unfolding value sides
value-six = refl

mincuts-six : mincuts six
    ≡ one 2 ∷ (two 2 3 ∷ ((2 ∷ (3 ∷ three 4 5 6)) ∷ (one 3 ∷ ((3 ∷ three 4 5 6) ∷ (one 4 ∷ (two 4 5 ∷ (three 4 5 6 ∷ (one 5 ∷ (two 5 6 ∷ (one 6 ∷ []))))))))))
unfolding mincuts value sides
mincuts-six = refl

value-apart : value apart ≡ 0
unfolding value sides
value-apart = refl

mincuts-apart : mincuts apart ≡ two 3 4 ∷ []
unfolding mincuts value sides
mincuts-apart = refl

mincuts-one : mincuts (record { vertices = 1; edges = [] }) ≡ []
unfolding mincuts value sides
mincuts-one = refl

-- no minimum cut separates the vertices 1 and 2, and one separates 2 and 3
unparted : list_all (λ side. not (parts (has side) 1 2)) (mincuts weighted) ≡ true
unfolding mincuts value sides
unparted = refl

parted : list_all (λ side. not (parts (has side) 2 3)) (mincuts weighted) ≡ false
unfolding mincuts value sides
parted = refl

relabel-weighted : relabel weighted (three 1 1 2) ≡ record { vertices = 2; edges = edge 1 2 5 ∷ [] }
unfolding relabel
relabel-weighted = refl

lift-weighted : lift (three 1 1 2) (one 2) ≡ one 3
lift-weighted = refl

chain-weighted : chain_of weighted 1 3 ≡ two 1 2 ∷ []
unfolding chain_of sets_across mincuts value sides
chain-weighted = refl

chain-ring : chain_of ring 1 2 ≡ one 1 ∷ (two 1 4 ∷ (three 1 3 4 ∷ []))
unfolding chain_of sets_across mincuts value sides
chain-ring = refl
