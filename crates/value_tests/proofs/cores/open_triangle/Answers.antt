use Rattle.std.proofs.Common.{◌∙◌, ℕ, List, [], ◌∷◌, ap, sym, subst}
use Rattle.cut_definitions.specs.Graph.{Graph}
use Rattle.cut_definitions.specs.Cuts.{value}
use Rattle.cut_definitions.specs.Safe.{IsFair}
use Rattle.scan_core.specs.Shown.{ArePartedEdges}
use Rattle.value_tests.proofs.Uneven.{fair_six, value_five, parted_are}
use Rattle.value_tests.proofs.cores.open_triangle.Goals as goal

pub open-requires-clause-fair : goal.open-requires-clause-fair
open-requires-clause-fair c = subst (λ (g : Graph). IsFair g 6) (sym c.requires) fair_six

pub open-requires-clause-value : goal.open-requires-clause-value
open-requires-clause-value c = value_five ∙ ap value (sym c.requires)

pub open-requires-clause-parted : goal.open-requires-clause-parted
open-requires-clause-parted c =
    subst (λ (l : List ℕ). ArePartedEdges c.args.graph.now l) (sym c.as_slice.ensures)
    (subst (λ (g : Graph). ArePartedEdges g (1 ∷ (2 ∷ []))) (sym c.requires) parted_are)
