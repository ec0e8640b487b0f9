use Rattle.std.proofs.Common.{◌∙◌, ap, arith}
use Rattle.cut_definitions.specs.Cuts.{has}
use Rattle.weighted_graph.specs.ContractionLaws.{IsLabelled}
use Rattle.mark_board.specs.Marks.{MarkList}
use Rattle.round_workers.proofs.Marking.{fair_small}
use Rattle.min_value.proofs.Kept.{fair_is, fewer_by_marks}
use Rattle.min_value.proofs.Passes.{step_of_marks}
use Rattle.min_value.proofs.closing.whole_scan.Goals as goal

pub mark_by_whole_scan-requires-clause-value : goal.mark_by_whole_scan-requires-clause-value
mark_by_whole_scan-requires-clause-value c =
    let small = fair_small c.args.graph.now c.n-n.ensures.edge_list.is_graph c.args.value (fair_is c.args.graph.now c.args.value c.requires.enough c.requires.value) in
    omega arith

pub returns-clause-step : goal.returns-clause-step
returns-clause-step c =
    let graph = c.args.graph.now in
    let labels = c.in_ok-labels.labels in
    let labelled : IsLabelled graph labels = record { are_labels = c.classes-classes.ensures.labels; long = c.in_ok-labels.ensures.vertices } in
    step_of_marks graph (has c.mark_by_whole_scan.new.marks.marked) c.args.value 1 labels labelled c.mark_by_whole_scan.ensures.safe c.in_ok-labels.ensures.classes

pub returns-clause-fewer : goal.returns-clause-fewer
returns-clause-fewer c =
    let graph = c.args.graph.now in
    let scan = c.mark_by_whole_scan in
    let labels = c.in_ok-labels.labels in
    let labelled : IsLabelled graph labels = record { are_labels = c.classes-classes.ensures.labels; long = c.in_ok-labels.ensures.vertices } in
    fewer_by_marks graph c.n-n.ensures.edge_list.is_graph scan.new.marks labels (scan.ensures.edges ∙ (ap (λ (m : MarkList). m.edges) c.in_ok-marks.ensures ∙ c.edges.ensures)) (scan.ensures.some c.if-not-mark_by_whole_scan.false) labelled c.in_ok-labels.ensures.classes
