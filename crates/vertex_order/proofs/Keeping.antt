-- What a numbering of the vertices keeps.
use Rattle.std.proofs.Common.{◌≡◌, ℕ, ◌≤◌, List, refl, sym, subst}
use Rattle.cut_definitions.specs.Graph.{Graph, IsGraph}
use Rattle.cut_definitions.specs.Cuts.{has, value}
use Rattle.cut_definitions.specs.Contraction.{relabel}
use Rattle.cut_definitions.proofs.Bools.{parts_itself}
use Rattle.cut_definitions.proofs.Bridge.{IsCut-has, two_vertices}
use Rattle.cut_definitions.proofs.Values.{value_is_weight, Contains-mincuts, IsSide-from_mincuts}
use Rattle.weighted_graph.specs.ContractionLaws.{IsLabelled, KeepsMinimumCuts, PartsNoClass}
use Rattle.weighted_graph.proofs.Contraction.{law_of_contracted_minimum_cuts}
use Rattle.vertex_order.specs.declared.renumbering.NearGraph.{NearGraph}
use Rattle.vertex_order.specs.declared.renumbering.NearGraph.TheVariants.{AsListed, Renumbered}
use Rattle.vertex_order.specs.Numbering.{IsNumbering, IsNearGraph, graph_of}

pub numbering_is_labelled : (g : Graph) (labels : List ℕ) → IsNumbering g.vertices labels → IsLabelled g labels
numbering_is_labelled g labels h = record { are_labels = h.are_labels; long = h.long }

numbering_parts_none : (g : Graph) (labels : List ℕ) → IsNumbering g.vertices labels → PartsNoClass g labels
numbering_parts_none g labels h = λ k side l u v u1 un v1 vn same. rw (h.apart u v u1 un v1 vn same) (parts_itself (has _ v))

-- if each vertex has a label of its own, the value and all minimum cuts are kept
pub numbering_keeps : (g : Graph) → IsGraph g → 2 ≤ g.vertices → (labels : List ℕ) → IsNumbering g.vertices labels → KeepsMinimumCuts g labels
numbering_keeps g ok two labels h = law_of_contracted_minimum_cuts g ok labels (numbering_is_labelled g labels h) two (numbering_parts_none g labels h)

-- a graph of two vertices or more with the same value
pub record SharesValue (g small : Graph) : Type 0 where
  pub same_value : value small ≡ value g
  pub enough : 2 ≤ small.vertices

pub numbered_stands : (g : Graph) → IsGraph g → 2 ≤ g.vertices → (labels : List ℕ) → IsNumbering g.vertices labels → SharesValue g (relabel g labels)
numbered_stands g ok two labels h =
    let kept = numbering_keeps g ok two labels h in
    let best = value_is_weight g two in
    let part = kept.each_is_lifted best.0 (Contains-mincuts g best.0 best.1 best.2) in
    let r = relabel g labels in
    record {
      same_value = kept.same_value;
      enough = two_vertices r.vertices (has part.0) (IsCut-has r.vertices part.0 (IsSide-from_mincuts r part.0 part.1).0);
    }

-- the graph of a list, renumbered or not
pub near_stands : (g : Graph) → IsGraph g → 2 ≤ g.vertices → (near : NearGraph) → IsNearGraph g near → SharesValue g (graph_of near)
near_stands g ok two (AsListed graph) h = subst (SharesValue g) (sym h) (record { same_value = refl; enough = two })
near_stands g ok two (Renumbered list graph labels) h = subst (SharesValue g) (sym h.2) (numbered_stands g ok two labels h.1)
