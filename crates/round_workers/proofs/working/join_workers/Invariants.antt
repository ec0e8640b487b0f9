use Rattle.std.proofs.Common.{vec_len}
use Rattle.round_workers.specs.Seats.{HasSeen}
use Rattle.round_workers.proofs.Seats.{AreJoinedFrom}
use Rattle.round_workers.proofs.working.join_workers.Given as goal

abbrev pub invariant-seats : goal.invariant-seats
invariant-seats l = record {
  seated : HasSeen l.board l.graph l.board.slack l.seat.seen l.seat;
  joined : AreJoinedFrom l.board l.graph l.board.slack l.fn.task.certifies (vec_len l.fn.workers) l.workers.items l.seat;
}

abbrev pub decreases-seats : goal.decreases-seats
decreases-seats l = vec_len l.workers
