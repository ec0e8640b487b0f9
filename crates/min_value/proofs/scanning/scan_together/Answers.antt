use Rattle.std.proofs.Common.{arith}
use Rattle.cut_definitions.specs.Cuts.{has}
use Rattle.cut_definitions.proofs.SafeLaws.{value-le_fair}
use Rattle.min_value.proofs.Scanned.{marked_parts_none}
use Rattle.min_value.proofs.scanning.scan_together.Goals as goal

pub returns : goal.returns
returns g c =
    let graph = c.args.graph.now in
    let r = c.in_ok-bound.ensures in
    let labels = c.in_ok-labels.labels in
    let low = value-le_fair graph c.in_ok-bound.bound r.fair in
    record {
      at_most = r.at_most;
      at_least = omega (arith, low);
      labelled = record { are_labels = c.classes-classes.ensures.labels; long = c.in_ok-labels.ensures.vertices };
      safe = marked_parts_none graph (has c.in_ok-bound.marks.marked) labels c.in_ok-bound.bound c.args.opening.slack r.safe c.in_ok-labels.ensures.classes;
    }
