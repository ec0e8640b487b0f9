-- Classes that no cut parts which weighs at most the value keep the minimum cuts.
use Rattle.std.proofs.Common.{◌≡◌, ℕ, ◌+◌, ◌<◌, ◌≤◌, List, refl, sym, subst, arith}
use Rattle.cut_definitions.specs.Graph.{Graph, IsGraph}
use Rattle.cut_definitions.specs.Weight.{VertexSet, weight}
use Rattle.cut_definitions.specs.Cuts.{value}
use Rattle.cut_definitions.specs.Contraction.{relabel, RespectsClasses}
use Rattle.weighted_graph.specs.ContractionLaws.{IsLabelled}
use Rattle.weighted_graph.proofs.Contraction.{law_of_contracted_minimum_cuts}
use Rattle.forest_contraction.specs.Left.{AreLabelsTied}
use Rattle.forest_contraction.proofs.Lessening.{tied_none}
use Rattle.min_value.specs.Kernels.{KeepsAllMinimumCuts, IsKept}
use Rattle.min_value.proofs.Kept.{two_left}

pub kept_by_ties : (g : Graph) → IsGraph g → (labels : List ℕ) (least : ℕ) (small : Graph) → 2 ≤ g.vertices → least ≡ value g → IsLabelled g labels →
    ((s : VertexSet) → weight g s < least + 1 → RespectsClasses g.vertices labels s) → small ≡ relabel g labels → IsKept g least small labels
unfolding relabel
kept_by_ties g ok labels least small two is labelled tied small_is =
    let kept = law_of_contracted_minimum_cuts g ok labels labelled two (tied_none g labels (least + 1) tied (omega arith)) in
    let all : KeepsAllMinimumCuts g (relabel g labels) labels = record { each_is_lifted = kept.each_is_lifted; lifted = kept.lifted } in
    subst (λ (s : Graph). IsKept g least s labels) (sym small_is) (record {
      is_value = is;
      same_value = kept.same_value;
      labelled = labelled;
      counted = refl;
      minimum_cuts = all;
      enough = two_left g (relabel g labels) labels two all;
    })

-- classes that are tied for a bound above the value are tied for the value and one more
pub tied_at_value : (g : Graph) (least bound : ℕ) (labels : List ℕ) → least ≡ value g → value g < bound → AreLabelsTied g bound labels → AreLabelsTied g (least + 1) labels
tied_at_value g least bound labels is above tied = record { long = tied.long; tied = λ s light. tied.tied s (omega (arith, is)) }
