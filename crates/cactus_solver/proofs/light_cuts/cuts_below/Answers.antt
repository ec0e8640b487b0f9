-- What is found for the classes, lifted.
use Rattle.std.proofs.Common.{◌≡◌, ℕ, ◌+◌, ◌*◌, ◌<◌, ◌≤◌, List, length, ◌∙◌, ap, subst, arith}
use Rattle.std.specs.List.{All}
use Rattle.std.proofs.lemmas.Result.{IfOk-weaker}
use Rattle.cut_definitions.specs.Contraction.{classes, relabel}
use Rattle.cut_definitions.specs.Graph.{Graph}
use Rattle.cut_definitions.proofs.ContractionLaws.{vertices-relabel}
use Rattle.forest_contraction.specs.Left.{AreLabelsTied}
use Rattle.least_cut.specs.CutsBelow.{AreCutsBelow}
use Rattle.least_cut.specs.declared.lightest.LightestCut.{LightestCut}
use Rattle.weighted_graph.specs.ContractionLaws.{IsLabelled}
use Rattle.cactus_solver.proofs.LightCuts.{lifted_below, none_below, over_classes, tied_below}
use Rattle.cactus_solver.proofs.light_cuts.cuts_below.Goals as goal

pub returns-then-classes-lt2 : goal.returns-then-classes-lt2
returns-then-classes-lt2 c =
    let g = c.args.list in
    let labels = c.in_ok-labels.labels in
    let ok = c.n-n.ensures.edge_list.is_graph in
    let labelled : IsLabelled g labels = record { are_labels = c.classes.ensures.labels; long = c.in_ok-labels.ensures.long } in
    let tied : AreLabelsTied g c.args.bound labels = tied_below g ok c.args.bound c.min.result labels c.min.ensures c.in_ok-labels.ensures.long c.in_ok-labels.ensures.tied in
    none_below g ok labels labelled c.args.bound c.args.room c.new.result.items c.requires tied (omega (arith, c.if-classes-lt2.true, c.classes-2.ensures.value)) c.new.ensures.items

pub lift_cuts-requires : goal.lift_cuts-requires
lift_cuts-requires c =
    let over = over_classes c.args.list c.in_ok-labels.labels c.in_ok-between.between c.args.bound c.args.room c.in_ok-cuts.cuts.items c.in_ok-between.ensures c.in_ok-cuts.ensures in
    rw c.deref.ensures.value over

pub returns : goal.returns
returns c =
    let g = c.args.list in
    let labels = c.in_ok-labels.labels in
    let ok = c.n-n.ensures.edge_list.is_graph in
    let labelled : IsLabelled g labels = record { are_labels = c.classes.ensures.labels; long = c.in_ok-labels.ensures.long } in
    let tied : AreLabelsTied g c.args.bound labels = tied_below g ok c.args.bound c.min.result labels c.min.ensures c.in_ok-labels.ensures.long c.in_ok-labels.ensures.tied in
    let below : AreCutsBelow (relabel g labels) c.args.bound c.args.room c.in_ok-cuts.cuts.items = subst (λ (s : Graph). AreCutsBelow s c.args.bound c.args.room c.in_ok-cuts.cuts.items) c.in_ok-between.ensures c.in_ok-cuts.ensures in
    let lifted = rw c.deref.ensures.value at c.lift_cuts.ensures in
    IfOk-weaker c.lift_cuts.result _ _ (λ cuts is. lifted_below g ok labels labelled c.args.bound c.args.room c.in_ok-cuts.cuts.items cuts.items c.requires tied below is) lifted

-- there are two classes or more
pub sweep-requires-2 : goal.sweep-requires-2
sweep-requires-2 c =
    let count : c.in_ok-between.between.vertices ≡ classes c.in_ok-labels.labels = ap (λ (g : Graph). g.vertices) c.in_ok-between.ensures ∙ vertices-relabel c.args.list c.in_ok-labels.labels in
    omega (arith, count, c.classes-2.ensures.value, c.if-classes-lt2.false)
