use Rattle.std.proofs.Common.{◌-◌, ◌^◌}
use Rattle.capped_scan.proofs.MaxTrees.{IsDescent}
use Rattle.capped_scan.proofs.maxima.first_greatest.Given as goal

abbrev pub invariant-loop-level : goal.invariant-loop-level
invariant-loop-level l = IsDescent (2 ^ l.height) l.tree (l.height - l._level) l.node
