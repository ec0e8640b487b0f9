use Rattle.capped_scan.specs.Scan.{StandsFor}
use Rattle.round_workers.specs.Seats.{HasSeen, IsLater, AreWon}
use Rattle.round_workers.proofs.scanning.scan_on_board.Given as goal

abbrev pub invariant-loop-turn : goal.invariant-loop-turn
invariant-loop-turn l = record {
  stands : StandsFor l.scan l.graph;
  seen : HasSeen l.board l.graph l.threshold.slack l.seen l.seat;
  later : IsLater l.fn.seat l.seat;
  won : AreWon l.scan l.seat;
}
