-- A cut is a minimum cut exactly if its side is one of the list.
use Rattle.std.proofs.Common.{◌∙◌, sym}
use Rattle.cut_definitions.specs.Cuts.{side_of}
use Rattle.cut_definitions.specs.Laws.{LawOfMinimumSides}
use Rattle.cut_definitions.proofs.Bridge.{Contains-mincuts_side_of, IsMinimumCut-from_weight, weight-side_of}
use Rattle.cut_definitions.proofs.Values.{IsSide-from_mincuts}

pub minimum_sides : LawOfMinimumSides
minimum_sides g ok s cut = (
  λ h. Contains-mincuts_side_of g ok s h,
  λ h. IsMinimumCut-from_weight g ok s cut (sym (weight-side_of g ok s) ∙ (IsSide-from_mincuts g (side_of g.vertices s) h).1),
)
