use Rattle.round_workers.proofs.Seats.{later_taking, won_taking}
use Rattle.round_workers.proofs.scanning.take_vertex.Goals as goal

pub returns-clause-later : goal.returns-clause-later
returns-clause-later c = rw c.take.ensures.won (later_taking c.args.seat.now c.args.vertex c.take.result)

pub returns-clause-won : goal.returns-clause-won
returns-clause-won c is = rw c.take.ensures.won (won_taking c.args.seat.now c.args.vertex c.take.result is)
