use Rattle.std.proofs.Common.{◌+◌}
use Rattle.cut_definitions.specs.Cuts.{has}
use Rattle.weighted_graph.specs.ContractionLaws.{IsLabelled}
use Rattle.min_value.proofs.Kept.{fair_is, low_is, safe_at, certified_at, none_marked, none_certified}
use Rattle.min_value.proofs.Passes.{step_of_marks}
use Rattle.min_value.proofs.kept_graph.round_at_value.Goals as goal

pub round-requires-clause-fair : goal.round-requires-clause-fair
round-requires-clause-fair g c κs within = fair_is c.args.graph.now c.args.value c.requires.enough c.requires.value

pub returns-clause-step : goal.returns-clause-step
returns-clause-step g c =
    let graph = c.args.graph.now in
    let r = c.in_ok-_low.ensures in
    let marked = has c.in_ok-_low.marks.marked in
    let same = low_is graph c.in_ok-_low._low c.args.value r.fair r.at_most c.requires.value in
    let labels = c.in_ok-labels.labels in
    let labelled : IsLabelled graph labels = record { are_labels = c.classes-classes.ensures.labels; long = c.in_ok-labels.ensures.vertices } in
    step_of_marks graph marked c.args.value 1 labels labelled (safe_at graph marked c.in_ok-_low._low c.args.value same r.safe) c.in_ok-labels.ensures.classes

pub returns-clause-closed : goal.returns-clause-closed
returns-clause-closed g c many =
    let graph = c.args.graph.now in
    let r = c.in_ok-_low.ensures in
    let marks = c.in_ok-_low.marks in
    let same = low_is graph c.in_ok-_low._low c.args.value r.fair r.at_most c.requires.value in
    let labels = c.in_ok-labels.labels in
    let labelled : IsLabelled graph labels = record { are_labels = c.classes-classes.ensures.labels; long = c.in_ok-labels.ensures.vertices } in
    none_certified graph (has marks.marked) (c.args.value + 1) (certified_at graph (has marks.marked) c.in_ok-_low._low c.args.value same r.certified)
    (none_marked graph c.n-n.ensures.edge_list.is_graph marks labels r.edges labelled c.in_ok-labels.ensures.classes many)
