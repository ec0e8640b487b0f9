-- Steps one after the other, and what each contraction keeps.
use Rattle.std.proofs.Common.{◌≡◌, ℕ, ◌+◌, ◌<◌, ◌≤◌, Bool, cond, List, map, min, refl, sym, ◌∙◌, ap, arith}
use Rattle.std.proofs.lemmas.Bool.{le-ltb}
use Rattle.cut_definitions.specs.Graph.{Graph, IsGraph}
use Rattle.cut_definitions.specs.Cuts.{value}
use Rattle.cut_definitions.specs.Contraction.{label, relabel}
use Rattle.weighted_graph.specs.ContractionLaws.{IsLabelled}
use Rattle.weighted_graph.specs.Marks.{MarksAreSafe}
use Rattle.round_contract.specs.Classes.{AreClassesOfMarks}
use Rattle.forest_contraction.specs.Left.{AreLabelsTied}
use Rattle.forest_contraction.proofs.Lessening.{tied_none, shrunk_left}
use Rattle.min_value.specs.Passes.{told, KeepsValue, KeepsAllCuts, IsStep}
use Rattle.min_value.proofs.Kept.{kept_more, kept_by_classes}
use Rattle.min_value.proofs.Scanned.{marked_parts_none}

-- ---- one step after the other

pub value_then : (g small smaller : Graph) (bound low lower : ℕ) → KeepsValue g bound small low → KeepsValue small low smaller lower → KeepsValue g bound smaller lower
value_then g small smaller bound low lower h k = record { at_most = omega (arith, h.at_most, k.at_most); same = k.same ∙ h.same }

pub cuts_then : (g small smaller : Graph) (labels next : List ℕ) → KeepsAllCuts g small labels → KeepsAllCuts small smaller next → KeepsAllCuts g smaller (map (label next) labels)
cuts_then g small smaller labels next h k = kept_more g small smaller (value g) (value small) labels next h k

-- ---- what tells the value, and what keeps it

pub told_of_two : (bound : ℕ) (g : Graph) → 2 ≤ g.vertices → told bound g ≡ min bound (value g)
told_of_two bound g two = ap (λ (b : Bool). cond b bound (min bound (value g))) (le-ltb g.vertices 2 two)

-- what keeps all minimum cuts keeps the value, at each bound
pub cuts_keep_value : (g small : Graph) (labels : List ℕ) (bound : ℕ) → 2 ≤ g.vertices → KeepsAllCuts g small labels → KeepsValue g bound small bound
cuts_keep_value g small labels bound two h = record {
  at_most = omega arith;
  same = told_of_two bound small h.enough ∙ (ap (λ (k : ℕ). min bound k) h.same_value ∙ sym (told_of_two bound g two));
}

-- ---- a contraction whose classes no minimum cut parts if the value is below a limit

pub step_keeps_value : (g : Graph) → IsGraph g → (limit : ℕ) (labels : List ℕ) → 2 ≤ g.vertices → IsStep g limit labels → KeepsValue g limit (relabel g labels) limit
step_keeps_value g ok limit labels two h = record {
  at_most = omega arith;
  same = sym (shrunk_left g ok labels limit two h.labelled h.safe) ∙ sym (told_of_two limit g two);
}

pub step_keeps_cuts : (g : Graph) → IsGraph g → (limit : ℕ) (labels : List ℕ) → 2 ≤ g.vertices → value g < limit → IsStep g limit labels → KeepsAllCuts g (relabel g labels) labels
step_keeps_cuts g ok limit labels two less h = kept_by_classes g ok labels (value g) (relabel g labels) two refl h.labelled (h.safe less) refl

-- ---- each pass is such a step

pub step_lower : (g : Graph) (limit lower : ℕ) (labels : List ℕ) → lower ≤ limit → IsStep g limit labels → IsStep g lower labels
step_lower g limit lower labels le h = record { labelled = h.labelled; safe = λ less. h.safe (omega arith) }

pub step_of_ties : (g : Graph) (limit : ℕ) (labels : List ℕ) → IsLabelled g labels → AreLabelsTied g limit labels → IsStep g limit labels
step_of_ties g limit labels labelled tied = record { labelled = labelled; safe = tied_none g labels limit tied.tied }

pub step_of_marks : (g : Graph) (marked : ℕ → Bool) (bound slack : ℕ) (labels : List ℕ) → IsLabelled g labels → MarksAreSafe g marked bound slack → AreClassesOfMarks g marked labels → IsStep g (bound + slack) labels
step_of_marks g marked bound slack labels labelled safe are = record { labelled = labelled; safe = marked_parts_none g marked labels bound slack safe are }
