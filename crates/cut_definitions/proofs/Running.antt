-- No weight is above the sum of the weights of all edges, and a running one fits.
use Rattle.std.proofs.Common.{ℕ, ◌+◌, ◌^◌, ◌<◌, ◌≤◌, Bool, List, length, take, get_or, arith}
use Rattle.std.specs.List.{sum_by}
use Rattle.std.proofs.lemmas.List.Sums.{sum_by_more_le_part}
use Rattle.cut_definitions.specs.declared.edge_list.Edge.{Edge}
use Rattle.cut_definitions.specs.Graph.{Graph, IsGraph}
use Rattle.cut_definitions.specs.Weight.{VertexSet, weight, between}
use Rattle.cut_definitions.proofs.Sums.{sum_by-le_each}
use Rattle.cut_definitions.proofs.WeightLaws.{cut_of, cut_term, join_of, join_term}

pub cut_of-le : (a b : Bool) (w : ℕ) → cut_of a b w ≤ w
cut_of-le a b w = grind arith

pub join_of-le : (a b c d : Bool) (w : ℕ) → join_of a b c d w ≤ w
join_of-le a b c d w = grind arith

pub cut_part_le : (s : VertexSet) (xs : List Edge) (i : ℕ) (d : Edge) → i < length xs →
    sum_by (cut_term s) (take i xs) + (get_or xs i d).w ≤ sum_by (λ (e : Edge). e.w) xs
cut_part_le s xs i d l = sum_by_more_le_part (cut_term s) (λ (e : Edge). e.w) xs i d l (λ e. cut_of-le (s e.u) (s e.v) e.w)

pub join_part_le : (s t : VertexSet) (xs : List Edge) (i : ℕ) (d : Edge) → i < length xs →
    sum_by (join_term s t) (take i xs) + (get_or xs i d).w ≤ sum_by (λ (e : Edge). e.w) xs
join_part_le s t xs i d l = sum_by_more_le_part (join_term s t) (λ (e : Edge). e.w) xs i d l (λ e. join_of-le (s e.u) (s e.v) (t e.u) (t e.v) e.w)

-- no set weighs more than all edges
pub weight-le_total : (g : Graph) (s : VertexSet) → weight g s ≤ sum_by (λ (e : Edge). e.w) g.edges
weight-le_total g s = sum_by-le_each (cut_term s) (λ (e : Edge). e.w) (λ e. cut_of-le (s e.u) (s e.v) e.w) g.edges

pub between-le_total : (g : Graph) (s t : VertexSet) → between g s t ≤ sum_by (λ (e : Edge). e.w) g.edges
between-le_total g s t =
    sum_by-le_each (join_term s t) (λ (e : Edge). e.w) (λ e. join_of-le (s e.u) (s e.v) (t e.u) (t e.v) e.w) g.edges

pub between_small : (g : Graph) → IsGraph g → (s t : VertexSet) → between g s t ≤ 2 ^ 61
between_small g ok s t = omega (arith, between-le_total g s t, ok.total)
