-- What a scan leaves to be known of a value, below any bound.
use Rattle.std.proofs.Common.{◌≡◌, ℕ, ◌+◌, ◌<◌, ◌≤◌, ◌^◌, Bool, true, false, List, min, refl, sym, subst, arith}
use Rattle.std.specs.Prelude.{if◌then◌else◌}
use Rattle.cut_definitions.specs.Graph.{Graph, IsGraph}
use Rattle.cut_definitions.specs.Cuts.{has, value}
use Rattle.cut_definitions.specs.Safe.{IsFair}
use Rattle.cut_definitions.specs.Contraction.{relabel}
use Rattle.cut_definitions.proofs.Running.{weight-le_total}
use Rattle.cut_definitions.proofs.SafeLaws.{value-le_fair}
use Rattle.cut_definitions.proofs.Values.{value_is_weight}
use Rattle.weighted_graph.specs.ContractionLaws.{IsLabelled, PartsNoClass}
use Rattle.weighted_graph.specs.Marks.{MarksAreSafe}
use Rattle.weighted_graph.proofs.MarkLaws.{law_of_marked_classes}
use Rattle.round_contract.specs.Classes.{AreClassesOfMarks}
use Rattle.forest_contraction.specs.Left.{IsLesser}
use Rattle.forest_contraction.proofs.Lessening.{shrunk_left}
use Rattle.least_cut.specs.declared.sweep.Swept.{Swept}
use Rattle.least_cut.specs.declared.sweep.Swept.TheVariants.{Whole, Part}
use Rattle.least_cut.specs.Sweep.{TellsLeast}
use Rattle.round_workers.specs.declared.threshold.Threshold.{Threshold}
use Rattle.min_value.specs.Left.{TellsLesser}
use Rattle.min_value.specs.Scanning.{IsScan}
use Rattle.min_value.specs.declared.scanning.Scanned.{Scanned}

-- a bound that is lowered by the weight of a cut is not below the lesser of the first bound and the value
pub least_lowered : (g : Graph) (bound least weight : ℕ) (all : Bool) → min bound (value g) ≤ least → (all ≡ false → IsFair g weight) → min bound (value g) ≤ (if all then least else min least weight)
least_lowered g bound least weight true h fair = h
least_lowered g bound least weight false h fair = omega (arith, h, value-le_fair g weight (fair refl))

-- classes that safe marks join are parted by no minimum cut if the value is below the bound and the slack
pub marked_parts_none : (g : Graph) (marked : ℕ → Bool) (labels : List ℕ) (bound slack : ℕ) → MarksAreSafe g marked bound slack → AreClassesOfMarks g marked labels → value g < bound + slack → PartsNoClass g labels
marked_parts_none g marked labels bound slack safe are less k d l u v u1 un v1 vn same =
    let classes_safe = law_of_marked_classes g labels marked bound slack safe (λ u v u1 un v1 vn same. (are.joined u v u1 un v1 vn).0 same) in
    classes_safe u v u1 un v1 vn same less k d l

-- such classes, and a bound that was lowered no further than to the value
pub left_classes : (g : Graph) → IsGraph g → (labels : List ℕ) (bound best : ℕ) (small : Graph) → 2 ≤ g.vertices → best ≤ bound → min bound (value g) ≤ best → IsLabelled g labels →
    (value g < best → PartsNoClass g labels) → small ≡ relabel g labels → IsLesser (min bound (value g)) best small
left_classes g ok labels bound best small two le ge labelled none is =
    let same : min best (value g) ≡ min bound (value g) = omega arith in
    subst (λ (s : Graph). IsLesser (min bound (value g)) best s) (sym is) (subst (λ (w : ℕ). IsLesser w best (relabel g labels)) same (shrunk_left g ok labels best two labelled none))

-- what a scan tells from a lower bound on, it tells from the bound on
pub scan_from : (g : Graph) (first next : Threshold) (s : Scanned) → first.slack ≡ next.slack → next.bound ≤ first.bound → min first.bound (value g) ≤ next.bound → IsScan g next s → IsScan g first s
scan_from g first next s same le ge h = record {
  at_most = omega (arith, h.at_most, le);
  at_least = omega (arith, h.at_least, le, ge);
  labelled = h.labelled;
  safe = λ less. h.safe (omega (arith, less, same));
}

-- no cut weighs more than all edges together
pub value_fits : (g : Graph) → IsGraph g → 2 ≤ g.vertices → value g ≤ 2 ^ 61
value_fits g ok two =
    let best = value_is_weight g two in
    omega (arith, weight-le_total g (has best.0), best.2, ok.total)

-- a sweep up to a bound, but no further than a cut can weigh, tells as much as one up to the bound
pub tells_lesser : (g : Graph) → IsGraph g → 2 ≤ g.vertices → (bound low most : ℕ) (swept : Swept) → low ≡ min bound (2 ^ 61) → TellsLeast g low most swept → TellsLesser g bound swept
tells_lesser g ok two bound low most (Whole weight) is told = (omega (arith, is, told, value_fits g ok two), omega (arith, is, told))
tells_lesser g ok two bound low most (Part weight) is told = (omega (arith, is, told.0, value_fits g ok two), omega (arith, is, told.1), omega (arith, is, told.1))
