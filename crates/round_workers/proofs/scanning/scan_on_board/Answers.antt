use Rattle.round_workers.proofs.Seats.{later_same, later_both, won_none}
use Rattle.round_workers.proofs.scanning.scan_on_board.Goals as goal

pub loop-turn-init : goal.loop-turn-init
loop-turn-init c = record {
  stands = c.start.ensures.stands c.args.graph.now c.requires.stands;
  seen = c.requires.seen;
  later = later_same c.args.seat.now;
  won = won_none c.start.new.self c.args.seat.now c.start.ensures.started.order;
}

pub loop-turn-preserved : goal.loop-turn-preserved
loop-turn-preserved c = record {
  stands = c.scan_or_drop-seen.ensures.stands;
  seen = c.scan_or_drop-seen.ensures.seen;
  later = later_both c.args.seat.now c.loop-turn.seat c.scan_or_drop-seen.new.seat c.loop-turn.invariant.later c.scan_or_drop-seen.ensures.later;
  won = c.scan_or_drop-seen.ensures.won;
}
