-- No cut that weighs less than the next number parts a class.
use Rattle.weighted_graph.specs.ContractionLaws.{IsLabelled}
use Rattle.cactus_solver.proofs.ByClasses.{kept_by_ties}
use Rattle.cactus_solver.proofs.list_classes.between.Goals as goal

pub returns : goal.returns
returns c =
    let whole = c.args.list.now in
    let labels = c.args.labels in
    let labelled : IsLabelled whole labels = record { are_labels = c.classes.ensures.labels; long = c.requires.tied.long } in
    kept_by_ties whole c.n.ensures.edge_list.is_graph labels c.args.value c.in_ok-between.between c.requires.enough c.requires.value labelled c.requires.tied.tied c.in_ok-between.ensures
