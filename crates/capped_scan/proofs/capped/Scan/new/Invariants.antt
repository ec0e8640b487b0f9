use Rattle.std.proofs.Common.{◌≡◌, ◌-◌, ◌*◌, ◌^◌, ◌≤◌}
use Rattle.capped_scan.proofs.capped.Scan.new.Given as goal

abbrev pub invariant-loop-size : goal.invariant-loop-size
invariant-loop-size l = record {
  power : l.size ≡ 2 ^ l.height;
  some : 1 ≤ l.size;
  small : l.size ≤ 2 * l.places;
  height_small : l.height ≤ l.size;
}

abbrev pub decreases-loop-size : goal.decreases-loop-size
decreases-loop-size l = l.places - l.size
