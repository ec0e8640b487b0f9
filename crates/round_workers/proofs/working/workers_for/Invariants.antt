use Rattle.std.proofs.Common.{◌≡◌, vec_len}
use Rattle.std.specs.Prelude.{All}
use Rattle.round_workers.specs.Seats.{HasSeen, IsReady}
use Rattle.round_workers.proofs.working.workers_for.Given as goal

abbrev pub invariant-loop : goal.invariant-loop
invariant-loop l = record {
  seated : HasSeen l.board l.graph l.board.slack l.seat.seen l.seat;
  len : vec_len l.workers ≡ l.counter;
  ready : All (IsReady l.board l.graph l.board.slack) l.workers.items;
}
