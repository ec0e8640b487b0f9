use Rattle.cut_definitions.specs.Cuts.{has}
use Rattle.min_value.proofs.Scanned.{marked_parts_none}
use Rattle.min_value.proofs.scanning.scan_alone.Goals as goal

pub returns : goal.returns
returns g c =
    let scan = c.mark_by_links-bound.ensures in
    let labels = c.in_ok-labels.labels in
    record {
      at_most = scan.at_most;
      at_least = scan.at_least;
      labelled = record { are_labels = c.classes-classes.ensures.labels; long = c.in_ok-labels.ensures.vertices };
      safe = marked_parts_none c.args.graph.now (has c.mark_by_links-bound.new.marks.marked) labels c.mark_by_links-bound.result c.args.threshold.slack scan.safe c.in_ok-labels.ensures.classes;
    }
