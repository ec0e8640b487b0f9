use Rattle.std.proofs.Common.{◌≤◌, take}
use Rattle.scan_core.specs.Machine.{Machine}
use Rattle.scan_core.specs.Shown.{Shows, HasGone}
use Rattle.scan_core.proofs.played.Core.replay.Given as goal

abbrev pub invariant-loop-event : goal.invariant-loop-event
invariant-loop-event l = record {
  few : l.count ≤ l.event-index;
  gone : (m : Machine) → Shows l.fn.self m → HasGone m (take l.event-index l.events) l.count l.self;
}
