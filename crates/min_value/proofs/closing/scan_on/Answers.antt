use Rattle.std.proofs.Common.{arith}
use Rattle.min_value.proofs.Kept.{value_of_small}
use Rattle.min_value.proofs.closing.scan_on.Goals as goal

pub scans-init : goal.scans-init
scans-init g c = record { kept = c.requires.kept; at_most = omega arith }

pub scans-preserved : goal.scans-preserved
scans-preserved g c = record {
  kept = c.in_ok-shrinks.ensures.kept c.args.graph.now c.scans.invariant.kept;
  at_most = omega (arith, c.in_ok-shrinks.ensures.at_most, c.scans.invariant.at_most);
}

pub scan_again-requires-clause-enough : goal.scan_again-requires-clause-enough
scan_again-requires-clause-enough g c = c.scans.invariant.kept.enough

pub scan_again-requires-clause-counted : goal.scan_again-requires-clause-counted
scan_again-requires-clause-counted g c = c.scans.invariant.kept.counted

pub scan_again-requires-clause-value : goal.scan_again-requires-clause-value
scan_again-requires-clause-value g c = value_of_small c.args.graph.now c.scans.kept.graph c.scans.kept.value c.scans.kept.labels c.scans.invariant.kept
