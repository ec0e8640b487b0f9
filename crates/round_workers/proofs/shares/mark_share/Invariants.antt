use Rattle.std.proofs.Common.{◌≡◌, ◌+◌, ◌-◌, ◌%◌, ◌<◌, length}
use Rattle.round_workers.specs.Seats.{HasSeen, IsLater, HasTested}
use Rattle.round_workers.proofs.shares.mark_share.Given as goal

abbrev pub invariant-share : goal.invariant-share
invariant-share l = record {
  seen : HasSeen l.board l.graph l.threshold.slack l.threshold.bound l.seat;
  later : IsLater l.fn.seat l.seat;
  place : l.edge % l.shares ≡ l.share;
  within : l.edge < length l.graph.edges + l.shares;
  tested : HasTested l.graph (l.threshold.bound + l.threshold.slack) l.share l.shares l.edge l.seat;
}

abbrev pub decreases-share : goal.decreases-share
decreases-share l = length l.graph.edges + l.shares - l.edge
