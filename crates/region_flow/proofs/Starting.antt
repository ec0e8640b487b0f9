-- The flow of nothing, and what no edge exceeds.
use Rattle.std.proofs.Common.{ℕ, ◌^◌, ◌<◌, ◌≤◌, map, length, arith}
use Rattle.std.proofs.lemmas.List.{get_or-map, length-map}
use Rattle.cut_definitions.specs.declared.edge_list.Edge.{Edge}
use Rattle.cut_definitions.specs.Graph.{Graph, IsGraph}
use Rattle.region_flow.specs.Residual.{IsFlow, edge_of}
use Rattle.region_flow.proofs.Balance.{IsFlow-start}
use Rattle.std.proofs.lemmas.List.Sums.{get_or-le-sum_by}

-- at the start each edge has its weight left in either direction
pub flow_of_nothing : (g : Graph) (s t : ℕ) → IsFlow g s t 0 (map (λ (e : Edge). e.w) g.edges)
flow_of_nothing g s t =
    IsFlow-start g s t
    (λ i l. omega (arith, get_or-map (λ (e : Edge). e.w) g.edges i (record { u = 0; v = 0; w = 0 }) 0 l))
    (length-map g.edges (λ (e : Edge). e.w))

-- no edge weighs more than all edges may
pub edge_weight_small : (g : Graph) → IsGraph g → (i : ℕ) → i < length g.edges → (edge_of g.edges i).w ≤ 2 ^ 61
edge_weight_small g ok i l = omega (arith, ok.total, get_or-le-sum_by (λ (e : Edge). e.w) g.edges i (record { u = 0; v = 0; w = 0 }) l)
