-- Safe edges compose: what marked edges join, in any number of steps, is safe together.
use Rattle.std.proofs.Common.{◌≡◌, ℕ, ◌≤◌, ◌+◌, ⊎_elim, true, get_or, arith}
use Rattle.std.specs.Prelude.{slice_index_or}
use Rattle.std.proofs.lemmas.Bool.{cases_Bool}
use Rattle.std.proofs.lemmas.List.Elements.{Contains-get_or}
use Rattle.cut_definitions.specs.Graph.{Graph, IsGraph}
use Rattle.cut_definitions.specs.Cuts.{has, value, mincuts}
use Rattle.cut_definitions.specs.Weight.{VertexSet, parts, weight, IsMinimumCut}
use Rattle.cut_definitions.specs.Safe.{IsSafe}
use Rattle.cut_definitions.proofs.Bridge.{IsMinimumCut-from_mincuts, weight-IsMinimumCut}
use Rattle.cut_definitions.proofs.SafeLaws.{value-le_fair}
use Rattle.cut_definitions.proofs.Bools.{parts_from_same, same_from_parts}
use Rattle.weighted_graph.specs.RowLaws.{edge_at}
use Rattle.weighted_graph.specs.ContractionLaws.{PartsNoClass}
use Rattle.weighted_graph.specs.Marks.{LawOfJoinedMarks, LawOfMarkedClasses, LawOfKeptContraction}
use Rattle.weighted_graph.proofs.Contraction.{law_of_contracted_minimum_cuts}

pub law_of_joined_marks : LawOfJoinedMarks
law_of_joined_marks g marked bound slack safe u v joined less k d l =
    let side = has (slice_index_or (mincuts g) k d) in
    parts_from_same (side u) (side v)
    (joined side (λ i within is. same_from_parts (side (edge_at g i).u) (side (edge_at g i).v) (safe i within is less k d l)))

pub law_of_marked_classes : LawOfMarkedClasses
law_of_marked_classes g labels marked bound slack safe joined u v u1 un v1 vn same =
    law_of_joined_marks g marked bound slack safe u v (joined u v u1 un v1 vn same)

pub law_of_kept_contraction : LawOfKeptContraction
law_of_kept_contraction g ok labels h two bound fair safe =
    let low : value g ≤ bound = value-le_fair g bound fair in
    let none : PartsNoClass g labels = λ k d l u v u1 un v1 vn same. safe u v u1 un v1 vn same (omega arith) k d l in
    law_of_contracted_minimum_cuts g ok labels h two none

-- a pair is safe if each minimum cut that separates it reaches the limit
pub safe_from_cuts : (g : Graph) → IsGraph g → (bound slack u v : ℕ) →
    ((s : VertexSet) → IsMinimumCut g s → parts s u v ≡ true → bound + slack ≤ weight g s) → IsSafe g bound slack u v
safe_from_cuts g ok bound slack u v reaches less k d l =
    let side = get_or (mincuts g) k d in
    let least : IsMinimumCut g (has side) = IsMinimumCut-from_mincuts g ok side (Contains-get_or (mincuts g) k d l) in
    ⊎_elim
    (λ (parted : parts (has side) u v ≡ true).
    let low : bound + slack ≤ weight g (has side) = reaches (has side) least parted in
    let same : weight g (has side) ≡ value g = weight-IsMinimumCut g ok (has side) least in
    absurd (omega arith))
    (λ not_parted. not_parted)
    (cases_Bool (parts (has side) u v))
