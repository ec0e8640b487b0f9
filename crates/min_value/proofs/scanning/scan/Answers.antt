use Rattle.std.proofs.Common.{refl, arith}
use Rattle.cut_definitions.proofs.SafeLaws.{value-le_fair}
use Rattle.round_workers.specs.declared.threshold.Threshold.{Threshold}
use Rattle.min_value.proofs.Scanned.{scan_from}
use Rattle.min_value.proofs.scanning.scan.Goals as goal

pub returns-then-is_worth_another : goal.returns-then-is_worth_another
returns-then-is_worth_another g c =
    let graph = c.args.graph.now in
    let found = c.in_ok-found.ensures in
    let first = value-le_fair graph c.least_degree.result c.least_degree.ensures.fair in
    record {
      at_most = omega (arith, c.min.ensures);
      at_least = omega (arith, c.min.ensures, found.at_least, first);
      labelled = found.labelled;
      safe = λ less. found.safe (omega (arith, less, c.min.ensures));
    }

pub returns : goal.returns
returns g c =
    let graph = c.args.graph.now in
    let found = c.in_ok-found.ensures in
    let first = value-le_fair graph c.least_degree.result c.least_degree.ensures.fair in
    let lower : Threshold = record { bound = c.min.result; slack = c.args.threshold.slack } in
    scan_from graph c.args.threshold lower c.in_ok-next.next refl (omega (arith, c.min.ensures)) (omega (arith, c.min.ensures, found.at_least, first)) c.in_ok-next.ensures
