-- One graph in place of another.
use Rattle.std.proofs.Common.{◌≡◌, ℕ, ◌≤◌, List, map, length, refl, ◌∙◌, subst, arith}
use Rattle.cut_definitions.specs.Graph.{Graph, IsGraph}
use Rattle.cut_definitions.specs.Cuts.{value}
use Rattle.cut_definitions.specs.Contraction.{label, lift}
use Rattle.vertex_set.specs.Side.{VertexList}
use Rattle.least_cut.specs.declared.lightest.LightestCut.{LightestCut}
use Rattle.least_cut.specs.Lightest.{IsLightestCut}
use Rattle.weighted_graph.proofs.Labelling.{classes_le}
use Rattle.min_value.specs.Kernels.{IsKept}
use Rattle.min_value.proofs.Kept.{kept_more, value_of_small}
use Rattle.cactus_solver.specs.Reducing.{CanStandFor}
use Rattle.cactus_solver.proofs.Smaller.{still_connected}

-- a graph has as many vertices as the smaller one, or more
pub enough_in : (g small : Graph) (least : ℕ) (labels : List ℕ) → IsKept g least small labels → 2 ≤ g.vertices
enough_in g small least labels h = omega (arith, classes_le labels h.labelled.are_labels, h.labelled.long, h.counted, h.enough)

-- what is kept of a graph is kept at its own value
pub at_own_value : (g small : Graph) (least : ℕ) (labels : List ℕ) → IsKept g least small labels → IsKept g (value small) small labels
at_own_value g small least labels h = subst (λ (k : ℕ). IsKept g k small labels) (value_of_small g small least labels h) h

-- one smaller graph after the other
pub kept_after : (g small smaller : Graph) (least again : ℕ) (labels next : List ℕ) → IsKept g least small labels → IsKept small again smaller next → IsKept g (value smaller) smaller (map (label next) labels)
kept_after g small smaller least again labels next h k = at_own_value g smaller least (map (label next) labels) (kept_more g small smaller least again labels next h k)

-- what is kept of a graph can be solved in its place, and so can the graph itself
pub kept_can_stand : (g small : Graph) → IsGraph g → IsGraph small → (least : ℕ) (labels : List ℕ) → IsKept g least small labels → CanStandFor g small
kept_can_stand g small ok small_ok least labels h = record {
  same_value = h.same_value;
  enough = h.enough;
  connected = λ connected. still_connected g small ok small_ok (enough_in g small least labels h) connected h.same_value;
}

pub can_stand_itself : (g : Graph) → 2 ≤ g.vertices → CanStandFor g g
can_stand_itself g two = record { same_value = refl; enough = two; connected = λ connected. connected }

-- a minimum cut of what is kept, lifted, is one of the graph
pub lifted_cut : (g small : Graph) (labels : List ℕ) (cut : LightestCut) (side : VertexList) → IsKept g (value small) small labels → IsLightestCut small cut →
    side ≡ record { vertices = length labels; members = lift labels cut.side.members } → IsLightestCut g (record { weight = cut.weight; side = side })
lifted_cut g small labels cut side h is lifted = rw lifted (record {
  weight = is.weight ∙ h.same_value;
  over = h.labelled.long;
  minimum = h.minimum_cuts.lifted cut.side.members is.minimum;
})
