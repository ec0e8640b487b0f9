use Rattle.round_workers.specs.Seats.{HasSeen, IsLater}
use Rattle.round_workers.proofs.scanning.mark_links_on_board.Given as goal

abbrev pub invariant-loop-arc : goal.invariant-loop-arc
invariant-loop-arc l = record {
  seen : HasSeen l.board l.graph l.threshold.slack l.threshold.bound l.seat;
  later : IsLater l.fn.seat l.seat;
}
